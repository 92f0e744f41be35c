-- The flips of a list done one by one: after so many, table and log hold those and no others, and the chains are the table's.
use mathlib.Core.Path.{◌≡◌, refl, sym, ◌∙◌, ap}
use mathlib.Core.List.{List, [], ◌∷◌, ◌++◌}
use Prim.Native.Nat.{ℕ, ◌+◌, ◌*◌, ◌≤◌, ◌<◌}
use native.Mathlib.Omega.{arith}
use lib.ListN.{length, length-append, get_or}
use lib.Seq.{sets}
use Rattle.std.specs.Prelude.{Ok, Err}
use Rattle.follow.proofs.Upto.{Upto, upto_none, upto_all, upto_fails, upto_more}
use Rattle.surface.specs.Rows.{rows, flat}
use Rattle.surface.specs.Table.{Arrow, ◌⇒◌}
use Rattle.surface.specs.Stage.{Stage}
use Rattle.surface.proofs.Flat.{rows_flat, flat_rows}
use Rattle.flips.specs.Flip.{Flips}
use Rattle.flips.proofs.Flips.{flip_stage}
use Rattle.neighbours.specs.Around.{Charted}
use Rattle.laid.specs.Laid.{count, items, in_front}
use Rattle.laid.proofs.Laws.{first_length, first_at, none_in_front, front_length, one_more}
use Rattle.chart.specs.Chart.{InChains}
use Rattle.chart.proofs.Looking.{chained_flat}
use Rattle.flipped.specs.declared.FlipRefusal.{FlipRefusal}
use Rattle.flipped.specs.declared.FlipHalt.TheVariants.{Stopped}
use Rattle.fliplog.specs.declared.FlipRecord.{FlipRecord}
use Rattle.fliplog.specs.InnerMeant.{meant}
use Rattle.fliplog.specs.Layout.{edge_list, width, numbers, flip_log}
use Rattle.fliplog.proofs.Logging.{flip_log_sound, edge_there}
use Rattle.flip.proofs.Flipping.{stage_charted}
use Rattle.flip.specs.Inner.{Tries}
use Rattle.fliplist.specs.Outcome.{Reached, flipping}
use Rattle.fliplist.specs.Inner.{FlipReady, FlippedOn}

-- after so many flips
pub record Going (n : ℕ) (t edges l : List ℕ) (done : ℕ) (t' l' last prev : List ℕ) : Type 0 where
  pub state : Reached
  -- what the flips lead to does not depend on the corner count told
  pub upto : (m : ℕ) → Upto (flipping m t edges l) done state
  pub many : length state.log ≡ done
  pub table : t' ≡ flat state.table
  pub log : l' ≡ in_front flip_log state.log l
  pub stage : Stage n state.table
  pub size : length t' ≡ length t
  pub chains : InChains t' last prev

module _ (t edges l : List ℕ) (g : FlipReady t edges l) where
  abbrev n : ℕ
  n = g.corners

  whole : flat (rows t) ≡ t
  whole = flat_rows (length (rows t)) t g.table.count

  many_items : length (items edge_list edges) ≡ count edge_list edges
  many_items = first_length edge_list (count edge_list edges) edges

  pub going_none : {last prev : List ℕ} → InChains t last prev → Going n t edges l 0 t l last prev
  going_none k = record {
    state = record { table = rows t; log = [] };
    upto = λ m. upto_none (flipping m t edges l);
    many = refl;
    table = sym whole;
    log = sym (none_in_front flip_log l);
    stage = g.table.stage;
    size = refl;
    chains = k;
  }

  module _ (done : ℕ) (t' l' last prev : List ℕ) (w : Going n t edges l done t' l' last prev) where
    stands : rows t' ≡ w.state.table
    stands = ap rows w.table ∙ rows_flat w.state.table

    pub charted : Charted t' last prev
    charted = stage_charted {n = n} (rw stands w.stage) w.chains

    -- the log keeps its length
    pub same_log : length l' ≡ length l
    same_log =
        let u = (w.upto n).within in
        let m = many_items in
        let k = w.many in
        let h = g.fits in
        ap length w.log ∙ front_length flip_log flip_log_sound w.state.log l (omega arith)

    pub done_all : done ≡ count edge_list edges → FlippedOn t edges l (Ok (count edge_list edges)) t' l'
    done_all h = rw (sym h) (record { followed = λ m. record { state = w.state; reached = upto_all (flipping m t edges l) (w.upto m) (omega (arith, many_items, h)); left = λ i. record { table = w.table i; log = w.log i } } })

    module _ (more : done < count edge_list edges) where
      -- the edge after those done
      abbrev pub next : Arrow
      next = get_or edges (2 * done) 0 ⇒ get_or edges (2 * done + 1) 0

      more_items : done < length (items edge_list edges)
      more_items = omega (arith, many_items, more)

      is_next : get_or (items edge_list edges) done next ≡ next
      is_next = first_at edge_list (count edge_list edges) edges done next more ∙ sym (edge_there edges (2 * done))

      pub room_left : width * done + width ≤ length l'
      room_left = let h = g.fits in let e = same_log in omega arith

      pub next_stops : {r : FlipRefusal} (t'' : List ℕ) → Tries t' (get_or edges (2 * done) 0) (get_or edges (2 * done + 1) 0) (Err r) t'' → FlippedOn t edges l (Err (Stopped r done)) t'' l'
      unfolding Tries
      next_stops {r} t'' f = record {
        followed = λ m. record {
          state = w.state;
          reached = upto_fails (flipping m t edges l) (w.upto m) more_items next is_next {r = r} (rw stands at f.0);
          left = λ i. record { table = (f.1 ∙ w.table) i; log = w.log i };
        };
      }

      module _ (k : FlipRecord) (t'' l'' : List ℕ) (f : Tries t' (get_or edges (2 * done) 0) (get_or edges (2 * done + 1) 0) (Ok k) t'') (wrote : l'' ≡ sets l' (width * done) (numbers (meant k))) where
        flips : Flips w.state.table (get_or edges (2 * done) 0) (get_or edges (2 * done + 1) 0) (meant k) (rows t'')
        unfolding Tries
        flips = rw stands at f

        abbrev onward : Reached
        onward = record { table = rows t''; log = w.state.log ++ (meant k ∷ []) }

        pub next_flips : {last' prev' : List ℕ} → length t'' ≡ length t' → InChains t'' last' prev' → Going n t edges l (done + 1) t'' l'' last' prev'
        next_flips same c = record {
          state = onward;
          upto = λ m. upto_more (flipping m t edges l) (w.upto m) more_items next is_next (meant k, flips, refl);
          many = let e = length-append w.state.log (meant k ∷ []) in let m = w.many in omega arith;
          table = chained_flat c;
          log =
              wrote
              ∙ (λ i. sets (w.log i) (width * sym w.many i) (numbers (meant k)))
              ∙ one_more flip_log flip_log_sound w.state.log (meant k) l (let h = g.fits in let m = w.many in omega arith);
          stage = flip_stage w.stage flips;
          size = same ∙ w.size;
          chains = c;
        }
