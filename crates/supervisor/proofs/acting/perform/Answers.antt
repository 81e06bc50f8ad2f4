use Rattle.std.proofs.Common.{◌∙◌, List, None, Some, ap, length, refl, subst, sym, true}
use Rattle.supervisor.specs.Deeds.{IsDone}
use Rattle.components.specs.Flags.{at_moment}
use Rattle.components.specs.Components.{ComponentState, Components}
use Rattle.supervisor.specs.declared.acting.Deed.{Deed}
use Rattle.components.specs.declared.kinds.Act.TheVariants as acts
use Rattle.components.proofs.Each.{length_changed}
use Rattle.supervisor.proofs.acting.perform.Goals as goal

pub returns-in-Moves-clause-done : goal.returns-in-Moves-clause-done
returns-in-Moves-clause-done c =
    let w : Components = at_moment c.args.slots.now c.args.moment c.args.steady in
    let v : Components = at_moment c.live_at.new.slots c.args.moment c.args.steady in
    subst (λ (d : Deed). IsDone w c.args.at d None v) (sym c.in-Moves.is) (refl, c.live_at.ensures.lived c.args.moment)

pub returns-in-Starts-clause-done : goal.returns-in-Starts-clause-done
returns-in-Starts-clause-done c =
    let w : Components = at_moment c.args.slots.now c.args.moment c.args.steady in
    let v : Components = at_moment c.hand_at.new.slots c.args.moment c.args.steady in
    subst (λ (d : Deed). IsDone w c.args.at d (Some (acts.Start c.args.at c.in-Starts.step)) v) (sym c.in-Starts.is)
    (refl, ap (λ (ps : List ComponentState). at_moment ps c.args.moment c.args.steady) c.hand_at.ensures)

pub returns-in-Starts-clause-many : goal.returns-in-Starts-clause-many
returns-in-Starts-clause-many c = c.requires.many ∙ sym (ap length c.hand_at.ensures ∙ length_changed c.args.at (λ p. record p { handed = true })
    c.args.slots.now)

pub returns-in-Kills-clause-done : goal.returns-in-Kills-clause-done
returns-in-Kills-clause-done c =
    let w : Components = at_moment c.args.slots.now c.args.moment c.args.steady in
    let v : Components = at_moment c.kill_child.new.slots c.args.moment c.args.steady in
    subst (λ (d : Deed). IsDone w c.args.at d (Some (acts.Kill c.in-Kills.number)) v) (sym c.in-Kills.is) (refl, c.kill_child.ensures.killed)
