-- What the flips of a list leave: in table and log those done and no others, and a stage with the same corners and Euler number.
use Rattle.std.specs.Prelude.{◌≡◌, List, [], ℕ, ◌*◌, ◌≤◌, length, take, drop}
use Rattle.follow.specs.Leads.{Leads}
use Rattle.surface.specs.Rows.{rows}
use Rattle.flips.specs.Flip.{Flip}
use Rattle.flips.specs.Kept.{StageKept}
use Rattle.laid.specs.Laid.{laid, count, items}
use Rattle.fliplog.specs.Layout.{edge_list, width, flip_log}
use Rattle.fliplist.specs.Outcome.{FlipsOn}

-- what k flips of a list leave in the table t and the log's room l
pub record FlipsLeft (n : ℕ) (t edges l : List ℕ) (k : ℕ) (t' l' : List ℕ) : Type 0 where
  pub listed : k ≤ count edge_list edges
  -- the first k listed edges are flipped in order, which leads from t to t' and logs their records
  pub log : List Flip
  pub flips : Leads FlipsOn (record { table = rows t; log = [] }) (take k (items edge_list edges)) (record { table = rows t'; log = log })
  -- "table and log hold those and no others": one record a flip in front of the log's room, and what lies past them as it was
  pub many : length log ≡ k
  pub front : take (width * k) l' ≡ laid flip_log log
  pub past : drop (width * k) l' ≡ drop (width * k) l
  pub same_table : length t' ≡ length t
  pub same_room : length l' ≡ length l
  pub kept : StageKept n (rows t) (rows t')
