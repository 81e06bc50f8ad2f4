use Rattle.std.proofs.Common.{◌≡◌, ◌++◌, ℕ, List, subst}
use Rattle.std.specs.Prelude.{OnOk}
use Rattle.nucleus_top.proofs.AboutEnds.{damage_said}
use Rattle.nucleus_top.proofs.about.put_damage.Goals as goal

pub returns : goal.returns
returns c =
    subst (λ (l : List ℕ). OnOk c.put_number.result (c.put_number.new.out ≡ c.args.out.now ++ l)) (damage_said _) c.put_number.ensures
