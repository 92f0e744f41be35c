-- What items lead to: one state, by parts, and back.
use mathlib.Core.Path.{◌≡◌, refl, sym, ◌∙◌}
use mathlib.Core.List.{List, [], ◌∷◌, ◌++◌, reverse, reverse-cons}
use Rattle.follow.specs.Leads.{Leads, no_step, one_step}

module _ {S I : Type 0} {Does : S → I → S → Type 0} where
  -- steps after steps
  pub leads_on : {s t u : S} {l m : List I} → Leads Does s l t → Leads Does t m u → Leads Does s (l ++ m) u
  leads_on (no_step e) v = rw (sym e) at v
  leads_on (one_step d w) v = one_step d (leads_on w v)

  -- one step more at the end
  pub leads_more : {s t u : S} {l : List I} {i : I} → Leads Does s l t → Does t i u → Leads Does s (l ++ (i ∷ [])) u
  leads_more w d = leads_on w (one_step d (no_step refl))

  -- a beginning of items leads to a state, from which the rest leads on
  pub leads_cut : {s u : S} (l : List I) {m : List I} → Leads Does s (l ++ m) u → (t : S) × Leads Does s l t × Leads Does t m u
  leads_cut {s} [] w = (s, no_step refl, w)
  leads_cut (i ∷ l) (one_step {u = t} d w) = let c = leads_cut {s = t} l w in (c.0, one_step d c.1, c.2)

  -- what every step keeps is kept
  pub leads_keep : (P : S → Type 0) → ((s t : S) (i : I) → P s → Does s i t → P t) → {s t : S} {l : List I} → P s → Leads Does s l t → P t
  leads_keep P k p (no_step e) = rw e at p
  leads_keep P k p (one_step {s = s} {u = u} {i = i} d w) = leads_keep P k (k s u i p d) w

  -- where a step leads to one state, so do the items
  module _ (one : (s t u : S) (i : I) → Does s i t → Does s i u → t ≡ u) where
    pub leads_one : {s t u : S} {l : List I} → Leads Does s l t → Leads Does s l u → t ≡ u
    leads_one (no_step e) (no_step f) = sym e ∙ f
    leads_one (one_step d w) (one_step c v) = leads_one (rw (one _ _ _ _ d c) at w) v

    -- and one of items that lead on has a step where those before it lead to
    pub leads_there : {s t u : S} (done : List I) {i : I} (rest : List I) → Leads Does s (done ++ i ∷ rest) u → Leads Does s done t → (v : S) × Does t i v
    leads_there [] rest (one_step {u = v} d w) (no_step e) = (v, rw e at d)
    leads_there (j ∷ done) rest (one_step {u = t} d w) (one_step c v) = leads_there {s = t} done rest w (rw (one _ _ _ _ c d) at v)

-- steps that undo others, where P holds: items that lead on lead back, the last first
module _ {S I : Type 0} {Does Undoes : S → I → S → Type 0} (P : S → Type 0) (back : (s t : S) (i : I) → P s → Does s i t → P t × Undoes t i s) where
  pub leads_back : {s t : S} {l : List I} → P s → Leads Does s l t → Leads Undoes t (reverse l) s
  leads_back p (no_step e) = no_step (sym e)
  leads_back p (one_step {s = s} {u = t} {i = i} {l = l} d w) = let u = back s t i p d in rw (reverse-cons i l) (leads_more (leads_back u.0 w) u.1)
