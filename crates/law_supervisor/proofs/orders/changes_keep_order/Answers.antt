use Rattle.law_supervisor.proofs.Placed.{changed_orderly, few_counts}
use Rattle.law_supervisor.proofs.orders.changes_keep_order.Goals as goal

pub returns : goal.returns
returns c = λ items counts steady w few d i. changed_orderly items counts steady w (λ k f e. few_counts counts few k) d i
