use Rattle.std.proofs.Common.{◌∙◌, Global, None, Option, Some, Vec, ap, sym, take, option_map, append-nil}
use Rattle.step_runner.specs.declared.shown.ShownComponent.{ShownComponent}
use Rattle.step_runner.specs.Views.{shown_as, those_shown}
use Rattle.step_runner.specs.declared.view.ViewedComponent.{ViewedComponent}
use Rattle.step_runner.proofs.Lasts.{shown_up_to}
use Rattle.step_runner.proofs.view.copy_view.Goals as goal
use Rattle.step_runner.proofs.view.copy_view.Goals.{in-Some+in_ok-copy_component+in_ok-push, in_default}

pub loop-place-preserved : goal.loop-place-preserved
loop-place-preserved g c =
    elim c.match-component.branch [
      | in-Some+in_ok-copy_component+in_ok-push w ↦
          let more = shown_up_to (g.V.View.components c.args.view.now) c.loop-place.place (Some (shown_as w.in-Some.component)) w.in-Some.ensures in
          let shown = ap (λ (v : Vec ShownComponent Global). v.items) w.shown-is in
          let added = w.in_ok-push.ensures.items in
          let copied = w.in_ok-copy_component.ensures in
          let before = c.loop-place.invariant in
          cc
      | in_default w ↦ let more = shown_up_to (g.V.View.components c.args.view.now) c.loop-place.place None (c.component.ensures ∙ ap (λ (o : Option ViewedComponent). Some (option_map shown_as o)) w.in_default.is) in
          let shown = ap (λ (v : Vec ShownComponent Global). v.items) w.shown-is in
          let before = c.loop-place.invariant in
          shown ∙ before ∙ sym (more ∙ append-nil (those_shown (take c.loop-place.place (g.V.View.components c.args.view.now))))
    ]
