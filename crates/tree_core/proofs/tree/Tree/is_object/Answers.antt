use Rattle.std.proofs.Common.{refl}
use Rattle.tree_core.proofs.Seen as seen
use Rattle.tree_core.proofs.tree.Tree.is_object.Goals as goal

pub returns-in-Fields : goal.returns-in-Fields
returns-in-Fields c = (λ _. seen.is_object _ c.in-Fields.field-0 c.in-Fields.is, λ _. refl)
