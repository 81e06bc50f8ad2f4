use Rattle.std.proofs.Common.{◌∙◌, sym, ap}
use Rattle.step_runner.specs.declared.views.KeptViews.{KeptViews}
use Rattle.step_runner.specs.KeptViews.{views_kept}
use Rattle.step_runner.proofs.Lasts.{last_told, on_ok}
use Rattle.step_runner.proofs.views.KeptViews.keep.Goals as goal
use Rattle.step_runner.proofs.views.KeptViews.keep.Goals.{then-self, else-self}

pub returns-clause-last : goal.returns-clause-last
returns-clause-last g c =
    let places = g.V.View.components c.args.view.now in
    let told = last_told c.if-self.self2 c.if-self.self.views (views_kept c.args.self.now) places in
    elim c.if-self.branch [
      | then-self w ↦ told (λ holds. ap (λ (k : KeptViews). k.views) w.self-is ∙ on_ok w.add.result
          (sym w.is_ok-self.ensures.value ∙ sym w.self2-is ∙ holds) w.add.ensures)
      | else-self w ↦ told (λ holds. let no = sym holds ∙ w.self2-is ∙ w.if-self.false in absurd cc)
    ]
