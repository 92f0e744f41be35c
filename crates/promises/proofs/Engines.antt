-- Both engines leave the run, and there is one.
use Rattle.run.proofs.Main.{run_one}
use Rattle.trapped.proofs.Order.{by_corner_run, run_by_corner, by_corner_one}
use Rattle.engines.proofs.Same.{went_one, engines_same}
use Rattle.thin.proofs.Main.{thinned_one}
use Rattle.promises.specs.Engines.{Engines}

pub engines : Engines
engines = record {
  same = λ o p q. thinned_one p q;
  own = λ xs s a b. engines_same s a b;
  orders = λ {n} s. (λ r. run_by_corner n s r, λ r. by_corner_run n s r);
  quick_one = λ {n} a b. went_one (λ T T' T'' p q. by_corner_one n) a b;
  plain_one = λ b xs a c. went_one (λ T T' T'' p q. run_one) a c;
}
