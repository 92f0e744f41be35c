-- Engines that work on the right corner and take the wrong one of its edges, on a skin of eight rows: its one right run takes 4 into 0, and then 3.
use mathlib.Core.Path.{◌≡◌, refl, sym, ◌∙◌, ap}
use mathlib.Core.Bool.{Bool, true}
use mathlib.Core.Logic.{◌⊎◌, inl, inr}
use mathlib.Core.List.Memᴰ
use mathlib.Core.List.{List, [], ◌∷◌, head-eq_of_cons-eq, tail-eq_of_cons-eq}
use Prim.Native.Nat.{ℕ, ◌+◌, ◌<◌}
use native.Mathlib.Decide.{ℕ_discrete}
use native.Mathlib.Omega.{arith}
use lib.Dec.{T as So, ltb, ltb→lt}
use lib.IntN.{ℤ, pos}
use lib.ListN.{get_or}
use Rattle.std.specs.Prelude.{Ok, Result, None}
use Rattle.refusal.specs.declared.Refusal.{Refusal}
use Rattle.surface.specs.Lists.{◌∈◌, Exactly}
use Rattle.surface.specs.Rows.{Row, row, rows, flat}
use Rattle.surface.specs.Table.{Edge, edges}
use Rattle.surface.specs.Link.{Meets}
use Rattle.surface.specs.Contract.{contract, renumber, replace, stays?, holds?}
use Rattle.surface.specs.Record.{later, leaving, Record, placed, Replays, Replayed}
use Rattle.surface.proofs.Counted.{one_count}
use Rattle.follow.specs.Leads.{Leads, no_step, one_step}
use Rattle.corners.specs.Skin.{Skin}
use Rattle.run.specs.Run.{Over, Run}
use Rattle.trapped.specs.Trapped.{Any}
use Rattle.trapped.specs.ByCorner.{ByCorner}
use Rattle.trapped.proofs.Order.{run_by_corner, by_corner_one}
use Rattle.length.specs.declared.Order.TheVariants.{NoLimit}
use Rattle.record.specs.Layout.{log_of, width, room_for}
use Rattle.thin.specs.Thin.{Thinned, done}
use Rattle.thin.proofs.Main.{thinned_one, thin_passes}
use Rattle.thin.proofs.Judging.{under_usable}
use Rattle.computed.proofs.Near.{near_whole, neighbours}
use Rattle.computed.proofs.Linking.{linked, linked_sound}
use Rattle.computed.proofs.Running.{stays_at, goes_on, run_sound, over_sound}
use Rattle.cases.specs.Cases.{lent}
use Rattle.cases.proofs.Skinned.{skin_sound}

-- 0 has the neighbours 1, 4, 2, 5 round it; 4 and 5 may be taken into it, and 5 has three neighbours
abbrev pub D : List ℕ
D = 0 ∷ 1 ∷ 4 ∷ 0 ∷ 2 ∷ 5 ∷ 0 ∷ 4 ∷ 2 ∷ 0 ∷ 5 ∷ 1 ∷ 1 ∷ 2 ∷ 3 ∷ 1 ∷ 3 ∷ 4 ∷ 1 ∷ 5 ∷ 2 ∷ 2 ∷ 4 ∷ 3 ∷ []

abbrev pub D_corners : List ℤ
D_corners = pos 0 ∷ pos 0 ∷ pos 0 ∷ pos 1 ∷ pos 0 ∷ pos 0 ∷ pos 2 ∷ pos 0 ∷ pos 0 ∷ pos 3 ∷ pos 0 ∷ pos 0 ∷ pos 4 ∷ pos 0 ∷ pos 0 ∷ pos 5 ∷ pos 0 ∷ pos 0 ∷ []

D_skin : Skin 6 (rows D) D_corners
unfolding edges rows
D_skin = skin_sound 6 (rows D) D_corners refl tt tt tt

abbrev d₁ : Record
d₁ = record { kept = 0; removed = 4; place_1 = 0; row_1 = row 0 1 4; place_2 = 2; row_2 = row 0 4 2 }

abbrev d₂ : Record
d₂ = record { kept = 0; removed = 3; place_1 = 3; row_1 = row 1 3 0; place_2 = 5; row_2 = row 2 0 3 }

abbrev D_end : List Row
D_end = row 0 2 5 ∷ row 0 5 1 ∷ row 1 2 0 ∷ row 1 5 2 ∷ []

abbrev D_last : List ℕ
D_last = 0 ∷ 2 ∷ 5 ∷ 0 ∷ 5 ∷ 1 ∷ 1 ∷ 2 ∷ 0 ∷ 1 ∷ 5 ∷ 2 ∷ 0 ∷ 0 ∷ 0 ∷ 0 ∷ 0 ∷ 0 ∷ 0 ∷ 0 ∷ 0 ∷ 0 ∷ 0 ∷ 0 ∷ []

abbrev D_log : List ℕ
D_log = 0 ∷ 4 ∷ 0 ∷ 0 ∷ 1 ∷ 4 ∷ 2 ∷ 0 ∷ 4 ∷ 2 ∷ 0 ∷ 3 ∷ 3 ∷ 1 ∷ 3 ∷ 0 ∷ 5 ∷ 2 ∷ 0 ∷ 3 ∷ []

abbrev any : ℕ → ℕ → Bool
any a b = true

D_run : Run Any (rows D) (d₁ ∷ d₂ ∷ []) D_end
unfolding edges rows contract renumber replace stays? holds? ℕ_discrete leaving later
D_run = run_sound any (goes_on {k = d₁} tt refl (goes_on {k = d₂} tt refl (stays_at refl))) tt

-- what alone is right, as an order of corners and as a call of thinning
pub D_by_corner : ByCorner 6 (rows D) (d₁ ∷ d₂ ∷ []) D_end
D_by_corner = run_by_corner 6 D_skin.stage D_run

pub D_thins : Thinned NoLimit D_corners D (lent (room_for 2)) (Ok 2) D_last D_log
unfolding rows flat log_of
D_thins = done {b = None} {log = d₁ ∷ d₂ ∷ []} {last = D_end} (thin_passes D (under_usable refl) refl D_skin (omega arith)) D_skin refl D_run refl refl refl

-- a record that is written where its edge meets the condition
step : (T : List Row) (k : Record) {T' : List Row} → So (ltb k.kept k.removed) → So (linked k.kept k.removed T) → contract k.kept k.removed T ≡ T' →
    leaving k.kept k.removed T ≡ placed k → Replays T k T'
step T k h m e r = record { lower = ltb→lt k.kept k.removed h; meets = linked_sound k.kept k.removed T m; leaves = e; record_is = r }

-- one that takes corners with three neighbours first, as source 000 does in lines 13 to 16 of Algorithm 4.2: a step at u that takes such a corner where the edge of one meets the condition
pub record ThreeFirst (u : ℕ) (T : List Row) (k : Record) (T' : List Row) : Type 0 where
  pub at_u : k.kept ≡ u
  pub replays : Replays T k T'
  pub prefers : (h : ℕ) → u < h → Meets T u h → Exactly (Edge T h) 3 → Exactly (Edge T k.removed) 3

-- it takes 5 into 0, and then, where no neighbour of 0 has just three, 1
abbrev e₁ : Record
e₁ = record { kept = 0; removed = 5; place_1 = 1; row_1 = row 0 2 5; place_2 = 3; row_2 = row 0 5 1 }

abbrev e₂ : Record
e₂ = record { kept = 0; removed = 1; place_1 = 0; row_1 = row 0 1 4; place_2 = 4; row_2 = row 1 0 2 }

abbrev three_end : List Row
three_end = row 0 4 2 ∷ row 0 2 3 ∷ row 0 3 4 ∷ row 2 4 3 ∷ []

five_has_three : Exactly (Edge (rows D) 5) 3
unfolding rows
five_has_three = neighbours 5 (rows D) tt refl

as_many : {T : List Row} {v h c : ℕ} → h ≡ v → Exactly (Edge T v) c → Exactly (Edge T h) 3 → c ≡ 3
as_many i e k = one_count e (rw i at k)

-- its steps are steps, and end where no edge is left
pub three_first : Leads (ThreeFirst 0) (rows D) (e₁ ∷ e₂ ∷ []) three_end × Over Any three_end
unfolding edges rows contract renumber replace stays? holds? ℕ_discrete leaving later
three_first = (
  one_step (record { at_u = refl; replays = step (rows D) e₁ tt tt refl refl; prefers = λ h i m e. five_has_three })
      (one_step (record { at_u = refl; replays = step (contract 0 5 (rows D)) e₂ tt tt refl refl; prefers = λ h i m e. absurd (none h e (Memᴰ.cases_cons (near_whole 0 h (contract 0 5 (rows D)) m.edge))) }) (no_step refl)),
  over_sound any three_end tt,
)
  where
    none : (h : ℕ) → Exactly (Edge (contract 0 5 (rows D)) h) 3 → (h ≡ 1) ⊎ (h ∈ 4 ∷ 2 ∷ []) → ⊥
    none h e (inl i) = let d : ◌≡◌ {A = ℕ} 4 3 = as_many i (neighbours 1 (contract 0 5 (rows D)) tt refl) e in omega arith
    none h e (inr m) = go (Memᴰ.cases_cons m)
      where
        go : (h ≡ 4) ⊎ (h ∈ 2 ∷ []) → ⊥
        go (inl i) = let d : ◌≡◌ {A = ℕ} 4 3 = as_many i (neighbours 4 (contract 0 5 (rows D)) tt refl) e in omega arith
        go (inr m) = let d : ◌≡◌ {A = ℕ} 4 3 = as_many (Memᴰ.eq_of_singleton m) (neighbours 2 (contract 0 5 (rows D)) tt refl) e in omega arith

-- whatever it does at 0 it begins with 5: no other neighbour of 0 has three
pub three_first_five : {k : Record} {T' : List Row} → ThreeFirst 0 (rows D) k T' → k.removed ≡ 5
unfolding rows
three_first_five {k} f = first (Memᴰ.cases_cons (near_whole 0 k.removed (rows D) (rw f.at_u at f.replays.meets.edge)))
  where
    has : Exactly (Edge (rows D) k.removed) 3
    has = f.prefers 5 (omega arith) (linked_sound 0 5 (rows D) tt) five_has_three

    third : (k.removed ≡ 4) ⊎ (k.removed ∈ 5 ∷ []) → k.removed ≡ 5
    third (inl i) = let d : ◌≡◌ {A = ℕ} 4 3 = as_many i (neighbours 4 (rows D) tt refl) has in absurd (omega arith)
    third (inr m) = Memᴰ.eq_of_singleton m

    second : (k.removed ≡ 2) ⊎ (k.removed ∈ 4 ∷ 5 ∷ []) → k.removed ≡ 5
    second (inl i) = let d : ◌≡◌ {A = ℕ} 5 3 = as_many i (neighbours 2 (rows D) tt refl) has in absurd (omega arith)
    second (inr m) = third (Memᴰ.cases_cons m)

    first : (k.removed ≡ 1) ⊎ (k.removed ∈ 2 ∷ 4 ∷ 5 ∷ []) → k.removed ≡ 5
    first (inl i) = let d : ◌≡◌ {A = ℕ} 5 3 = as_many i (neighbours 1 (rows D) tt refl) has in absurd (omega arith)
    first (inr m) = second (Memᴰ.cases_cons m)

-- but neither corner by corner with the least first nor a call of thinning begins so
pub three_first_not : {k : Record} {T'' : List Row} → ThreeFirst 0 (rows D) k T'' → (l : List Record) (T' : List Row) → ¬ ByCorner 6 (rows D) (k ∷ l) T'
three_first_not f l T' h = let e = ap (λ k. k.removed) (head-eq_of_cons-eq (by_corner_one 6 h D_by_corner).0) in let g : ◌≡◌ {A = ℕ} 5 4 = sym (three_first_five f) ∙ e in omega arith

pub three_first_thins : {k : Record} {T'' : List Row} → ThreeFirst 0 (rows D) k T'' → (b : Result ℕ Refusal) (u m : List ℕ) → get_or m 1 0 ≡ k.removed → ¬ Thinned NoLimit D_corners D (lent (room_for 2)) b u m
three_first_thins f b u m e h = let k = ap (λ l. get_or l 1 0) (thinned_one h D_thins).2 in let g : ◌≡◌ {A = ℕ} 5 4 = sym (three_first_five f) ∙ sym e ∙ k in omega arith

-- one that takes the first free neighbour in the order round the corner, or only numbers above the last one that it took: after 4 it takes 5, though 3 came to 0 with 4. Its walk round 0 begins
-- at 1 and goes on behind the one taken, past 2, as that of 000 does, whose list takes new edges at its rear (Algorithm 4.5, line 30); from 1 again it would meet 3 first
abbrev f₂ : Record
f₂ = record { kept = 0; removed = 5; place_1 = 0; row_1 = row 0 2 5; place_2 = 1; row_2 = row 0 5 1 }

abbrev round_end : List Row
round_end = row 1 2 3 ∷ row 1 3 0 ∷ row 1 0 2 ∷ row 2 0 3 ∷ []

pub round_first : Replayed (rows D) (d₁ ∷ f₂ ∷ []) round_end × Over Any round_end
unfolding edges rows contract renumber replace stays? holds? ℕ_discrete leaving later
round_first = (one_step (step (rows D) d₁ tt tt refl refl) (one_step (step (contract 0 4 (rows D)) f₂ tt tt refl refl) (no_step refl)), over_sound any round_end tt)

pub round_first_not : (l : List Record) (T' : List Row) → ¬ ByCorner 6 (rows D) (d₁ ∷ f₂ ∷ l) T'
round_first_not l T' h = let e = ap (λ k. k.removed) (head-eq_of_cons-eq (tail-eq_of_cons-eq (by_corner_one 6 h D_by_corner).0)) in let f : ◌≡◌ {A = ℕ} 5 3 = e in omega arith

pub round_first_thins : (b : Result ℕ Refusal) (u m : List ℕ) → get_or m (width + 1) 0 ≡ 5 → ¬ Thinned NoLimit D_corners D (lent (room_for 2)) b u m
round_first_thins b u m e h = let k = ap (λ l. get_or l (width + 1) 0) (thinned_one h D_thins).2 in let f : ◌≡◌ {A = ℕ} 5 3 = sym e ∙ k in omega arith
