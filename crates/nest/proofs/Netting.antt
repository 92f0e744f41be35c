-- The nets of a job that answers every question well: there are such nets, the topmost is one, and it is what the code adds up.
use mathlib.Core.Path.{◌≡◌, refl, sym, ◌∙◌, ap, subst}
use mathlib.Core.Bool.{Bool, true, false, cond, ◌&&◌}
use mathlib.Core.List.{List, [], ◌∷◌}
use Prim.Native.Nat.{ℕ, zero, suc, ◌+◌, ◌-◌, ◌≤◌, ◌<◌}
use native.Mathlib.Omega.{arith}
use lib.IntN.{ℤ, pos, ◌+ℤ◌, ◌-ℤ◌}
use lib.ListN.{length}
use Rattle.std.specs.Prelude.{Option, Some, None}
use Rattle.jobform.specs.declared.Entry.{Entry}
use Rattle.nest.specs.declared.Kind.{Kind}
use Rattle.nest.specs.declared.Kind.TheVariants.{Void, Solid, Other}
use Rattle.nest.specs.Limits.{most_depth}
use Rattle.nest.specs.Questions.{kind, At, Every, Marked, NameGood, Named, Alternates, Deep, top, below, Shallow}
use Rattle.nest.specs.Net.{is_void, is_solid, names, stands, added, Nets, told_sum}
use Rattle.nest.specs.Inner.{named_in, net_within}
use Rattle.nest.proofs.Entries.{at_below, Found, found, name_at, names_is}

-- ---- sums over what stands somewhere

pub added_agree : (f g : ℕ → ℤ) (p q : ℕ → Bool) (m : ℕ) → ((k : ℕ) → k < m → p k ≡ q k) → ((k : ℕ) → k < m → q k ≡ true → f k ≡ g k) → added f p m ≡ added g q m
unfolding added
added_agree f g p q zero same equal = refl
added_agree f g p q (suc m) same equal =
    let a = added_agree f g p q m (λ k h. same k (omega arith)) (λ k h. equal k (omega arith)) in
    let b = ap (λ x. cond x (f m) (pos 0)) (same m (omega arith)) ∙ part (q m) (f m) (g m) (equal m (omega arith)) in
    λ i. a i +ℤ b i
  where
    part : (b : Bool) (x y : ℤ) → (b ≡ true → x ≡ y) → cond b x (pos 0) ≡ cond b y (pos 0)
    part true x y h = h refl
    part false x y h = refl

pub added_nothing : (f : ℕ → ℤ) (m : ℕ) → added f (λ k. false) m ≡ pos 0
unfolding added
added_nothing f zero = refl
added_nothing f (suc m) = ap (λ z. z +ℤ pos 0) (added_nothing f m)

-- ---- who stands where

stands_at : (is : Kind → Bool) (es : List Entry) (i k : ℕ) (e : Entry) → At es k e → stands is es i k ≡ is (kind e) && names i e.name
stands_at is [] i k e a = absurd a
stands_at is (d ∷ es) i zero e a = ap (λ x. is (kind x) && names i x.name) a
stands_at is (d ∷ es) i (suc k) e a = stands_at is es i k e a

only_second : (b c : Bool) → (c ≡ true → b ≡ true) → b && c ≡ c
only_second true c h = refl
only_second false true h = h refl
only_second false false h = refl

-- what every question answered well comes to
pub record Sound (es : List Entry) : Type 0 where
  pub some : 0 < length es
  pub marked : Every Marked es
  pub named : Every Named es
  pub alternates : Every Alternates es
  pub shallow : Every Shallow es

module _ (es : List Entry) (i k : ℕ) (e : Entry) (a : At es k e) where
  its_name : named_in es i k ≡ names i e.name
  its_name = ap (names i) (name_at es k e a)

  -- who is told to name entry i, names it
  named_by : named_in es i k ≡ true → e.name ≡ Some i
  named_by t = names_is i e.name (sym its_name ∙ t)

module _ {es : List Entry} (s : Sound es) where
  -- of another kind than entry i, so a solid in a void and a void in a solid
  in_void : (i k : ℕ) (e : Entry) → At es i e → kind e ≡ Void → (d : Entry) → At es k d → d.name ≡ Some i → is_solid (kind d) ≡ true
  in_void i k e a v d b n = go (kind d) refl
    where
      go : (x : Kind) → kind d ≡ x → is_solid x ≡ true
      go Void q = absurd (s.alternates k d b i e n a (q ∙ sym v))
      go Solid q = refl
      go Other q = absurd (s.marked k d b q)

  in_solid : (i k : ℕ) (e : Entry) → At es i e → kind e ≡ Solid → (d : Entry) → At es k d → d.name ≡ Some i → is_void (kind d) ≡ true
  in_solid i k e a v d b n = go (kind d) refl
    where
      go : (x : Kind) → kind d ≡ x → is_void x ≡ true
      go Void q = refl
      go Solid q = absurd (s.alternates k d b i e n a (q ∙ sym v))
      go Other q = absurd (s.marked k d b q)

  -- so those of that kind directly in it are all that name it
  stands_kept : (is : Kind → Bool) (i : ℕ) → ((k : ℕ) (d : Entry) → At es k d → d.name ≡ Some i → is (kind d) ≡ true) → (k : ℕ) → k < length es → stands is es i k ≡ named_in es i k
  stands_kept is i all_are k h =
      let f = found es k h in
      let mine = its_name es i k f.e f.here in
      stands_at is es i k f.e f.here
      ∙ only_second (is (kind f.e)) (names i f.e.name) (λ t. all_are k f.e f.here (named_by es i k f.e f.here (mine ∙ t)))
      ∙ sym mine

  module _ (i : ℕ) (e : Entry) (a : At es i e) where
    solids_kept : kind e ≡ Void → (k : ℕ) → k < length es → stands is_solid es i k ≡ named_in es i k
    solids_kept v = stands_kept is_solid i (λ k d b n. in_void i k e a v d b n)

    voids_kept : kind e ≡ Solid → (k : ℕ) → k < length es → stands is_void es i k ≡ named_in es i k
    voids_kept v = stands_kept is_void i (λ k d b n. in_solid i k e a v d b n)

  -- ---- deeper and deeper

  -- who stands in an entry is one deeper
  deeper : {i d : ℕ} → Deep es i d → (k : ℕ) (e : Entry) → At es k e → e.name ≡ Some i → Deep es k (suc d)
  deeper p k e a n = below e a n p

  -- at the most depth nobody stands in an entry
  childless : {i d : ℕ} → Deep es i d → most_depth ≤ d → (k : ℕ) → k < length es → named_in es i k ≡ false
  childless {i} {d} p h k m = go (named_in es i k) refl
    where
      go : (b : Bool) → named_in es i k ≡ b → b ≡ false
      go true t =
          let f = found es k m in
          let over = s.shallow k f.e f.here (suc d) (deeper p k f.e f.here (named_by es i k f.e f.here t)) in
          absurd (omega arith)
      go false t = refl

  -- ---- the nets are what the code adds up

  abbrev within : ℕ → ℕ → ℤ
  within left = net_within left es

  -- two ways to count inside an entry agree where they agree deeper
  agree : {i d : ℕ} → Deep es i d → (f g : ℕ → ℤ) → ((k : ℕ) → Deep es k (suc d) → f k ≡ g k) → (p : ℕ → Bool) → ((k : ℕ) → k < length es → p k ≡ named_in es i k) → added f p (length es) ≡ added g (named_in es i) (length es)
  agree {i} deep f g equal p same =
      added_agree f g p (named_in es i) (length es) same (λ k h t. (let c = found es k h in equal k (deeper deep k c.e c.here (named_by es i k c.e c.here t))))

  nothing_in : {i d : ℕ} → Deep es i d → most_depth ≤ d → (f : ℕ → ℤ) (p : ℕ → Bool) → ((k : ℕ) → k < length es → p k ≡ named_in es i k) → added f p (length es) ≡ pos 0
  nothing_in deep h f p same = added_agree f f p (λ k. false) (length es) (λ k m. same k m ∙ childless deep h k m) (λ k m t. refl) ∙ added_nothing f (length es)

  -- more depth left than there is changes nothing
  steady : (left i d : ℕ) → Deep es i d → most_depth ≤ d + left → within left i ≡ within (suc left) i
  unfolding net_within
  steady zero i d deep h =
      let own = told_sum es i in
      let e = nothing_in deep (omega arith) (within 0) (named_in es i) (λ k m. refl) in
      ap (λ z. own -ℤ z) (sym e)
  steady (suc left) i d deep h =
      let own = told_sum es i in
      let e = agree deep (within left) (within (suc left)) (λ k p. steady left k (suc d) p (omega arith)) (named_in es i) (λ k m. refl) in
      ap (λ z. own -ℤ z) e

  -- any nets are these
  module _ {net : ℕ → ℤ} (nets : Nets es (told_sum es) net) where
    -- by the one sentence or by the other
    data Worked (i : ℕ) : Type 0 where
      worked : (p : ℕ → Bool) → ((k : ℕ) → k < length es → p k ≡ named_in es i k) → net i ≡ told_sum es i -ℤ added net p (length es) → Worked i

    work : (i : ℕ) (e : Entry) → At es i e → Worked i
    work i e a = go (kind e) refl
      where
        go : (x : Kind) → kind e ≡ x → Worked i
        go Void q = worked (stands is_solid es i) (solids_kept i e a q) (nets.of_void i e a q)
        go Solid q = worked (stands is_void es i) (voids_kept i e a q) (nets.of_solid i e a q)
        go Other q = absurd (s.marked i e a q)

    its_entry : {i d : ℕ} → Deep es i d → Found es i
    its_entry (top e a n) = record { e = e; here = a }
    its_entry (below e a n p) = record { e = e; here = a }

    pub net_one : (left i d : ℕ) → Deep es i d → most_depth ≤ d + left → net i ≡ within left i
    unfolding net_within
    net_one zero i d deep h = go (let f = its_entry deep in work i f.e f.here)
      where
        go : Worked i → net i ≡ told_sum es i -ℤ pos 0
        go (worked p same e) = e ∙ ap (λ z. told_sum es i -ℤ z) (nothing_in deep (omega arith) net p same)
    net_one (suc left) i d deep h = go (let f = its_entry deep in work i f.e f.here) (λ k p. net_one left k (suc d) p (omega arith))
      where
        go : Worked i → ((k : ℕ) → Deep es k (suc d) → net k ≡ within left k) → net i ≡ told_sum es i -ℤ added (within left) (named_in es i) (length es)
        go (worked p same e) equal = e ∙ ap (λ z. told_sum es i -ℤ z) (agree deep net (within left) equal p same)

  -- ---- the topmost entry, and the depth of every entry

  first_name : (n : Option ℕ) → NameGood 0 n → n ≡ None
  first_name None g = refl
  first_name (Some j) g = absurd g

  pub topmost : Deep es 0 1
  topmost = let f = found es 0 s.some in top f.e f.here (first_name f.e.name (s.named 0 f.e f.here))

  record Depth (i : ℕ) : Type 0 where
    pub d : ℕ
    pub deep : Deep es i d

  -- by the entries before it, of which there are fewer than n
  depth_below : (n i : ℕ) (e : Entry) → At es i e → i < n → Depth i
  depth_below zero i e a h = absurd (omega arith)
  depth_below (suc n) i e a h = go i e.name refl a (s.named i e a) (λ j f b m. depth_below n j f b m) h
    where
      go : (i : ℕ) (m : Option ℕ) → e.name ≡ m → At es i e → NameGood i e.name → ((j : ℕ) (f : Entry) → At es j f → j < n → Depth j) → i < suc n → Depth i
      go zero None q a g before h = record { d = 1; deep = top e a q }
      go zero (Some j) q a g before h = absurd (subst (NameGood 0) q g)
      go (suc i) None q a g before h = absurd (subst (NameGood (suc i)) q g)
      go (suc i) (Some j) q a g before h =
          let less : j < suc i = subst (NameGood (suc i)) q g in
          let f = found es j (omega (arith, at_below es (suc i) e a)) in
          let p = before j f.e f.here (omega arith) in
          record { d = suc p.d; deep = below e a q p.deep }

  -- there are nets
  their_nets : (i : ℕ) (e : Entry) → At es i e → (p : ℕ → Bool) → ((k : ℕ) → k < length es → p k ≡ named_in es i k) → within 8 i ≡ told_sum es i -ℤ added (within 8) p (length es)
  unfolding net_within
  their_nets i e a p same =
      let x = depth_below (suc i) i e a (omega arith) in
      ap (λ z. told_sum es i -ℤ z) (sym (agree x.deep (within 8) (within 7) (λ k q. sym (steady 7 k (suc x.d) q (omega arith))) p same))

  pub nets_there : Nets es (told_sum es) (within most_depth)
  nets_there = record {
    of_void = λ i e a q. their_nets i e a (stands is_solid es i) (solids_kept i e a q);
    of_solid = λ i e a q. their_nets i e a (stands is_void es i) (voids_kept i e a q);
  }

  pub top_net : {net : ℕ → ℤ} → Nets es (told_sum es) net → net 0 ≡ within (most_depth - 1) 0
  top_net nets = net_one nets 7 0 1 topmost (omega arith)
