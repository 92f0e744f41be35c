-- The records of a log by place: what the loops read is the record that the definitions take next.
use mathlib.Core.Path.{◌≡◌, sym, ◌∙◌, ap}
use mathlib.Core.List.Memᴰ
use mathlib.Core.List.{List, ◌∷◌, reverse}
use Prim.Native.Nat.{ℕ, suc, ◌+◌, ◌-◌, ◌*◌, ◌<◌}
use native.Mathlib.Numerals.{add-one}
use native.Mathlib.Omega.{arith}
use lib.ListN.{length, drop, get_or}
use lib.Seq.{drop-cons}
use Rattle.follow.proofs.Back.{reverse_at}
use Rattle.surface.specs.Lists.{◌∈◌}
use Rattle.surface.specs.Record.{Record}
use Rattle.surface.proofs.Flat.{at_place, place_of}
use Rattle.record.specs.Layout.{width, record_at, count, records}
use Rattle.record.proofs.Log.{first_length, first_at}

module _ (log : List ℕ) where
  -- so many records
  pub records_length : length (records log) ≡ count log
  records_length = first_length (count log) log

  pub records_at : (j : ℕ) → j < count log → get_or (records log) j (record_at log 0) ≡ record_at log (width * j)
  records_at j h = first_at (count log) log j (record_at log 0) h

  -- from place j on: the record there, and the rest
  pub records_from : (j : ℕ) → j < count log → drop j (records log) ≡ record_at log (width * j) ∷ drop (j + 1) (records log)
  records_from j h =
      let n = records_length in
      rw (add-one j) (drop-cons (records log) j (record_at log 0) (omega arith) ∙ ap (λ k. k ∷ drop (suc j) (records log)) (records_at j h))

  -- the record at a place is one of the log's, and each of the log's stands at a place
  pub in_records : (j : ℕ) → j < count log → record_at log (width * j) ∈ records log
  in_records j h = let n = records_length in Memᴰ.cast (sym (records_at j h)) (at_place (records log) j (record_at log 0) (omega arith))

  pub records_in : {k : Record} → k ∈ records log → (j : ℕ) × (j < count log) × (record_at log (width * j) ≡ k)
  records_in m =
      let p = place_of (record_at log 0) m in
      let n = records_length in
      let i = p.1 in
      let h : p.0 < count log = omega arith in
      (p.0, h, sym (records_at p.0 h) ∙ p.2)

  -- counted from the end
  pub records_back : (j : ℕ) → j < count log → (d : Record) → get_or (reverse (records log)) j d ≡ record_at log (width * (count log - 1 - j))
  records_back j h d =
      let n = records_length in
      let i : count log - 1 - j ≡ length (records log) - 1 - j = omega arith in
      reverse_at (records log) j d (omega arith) ∙ ap (λ z. get_or (records log) z d) (sym i) ∙ first_at (count log) log (count log - 1 - j) d (omega arith)
