use Rattle.std.proofs.Common.{◌≡◌, arith, refl, sym, subst, ◌∙◌, List, ℕ, true, false}
use Rattle.components.specs.Fitted.{is_before}
use Rattle.components.specs.Components.{ComponentState, At, component_name}
use Rattle.components.proofs.Meets.{placed_here, placed_last, placed_skip}
use Rattle.supervisor.proofs.merging.place_among.Goals as goal

pub loop-at-init : goal.loop-at-init
loop-at-init c = λ p e. refl

pub loop-at-preserved : goal.loop-at-preserved
loop-at-preserved c = λ p e.
    let h = subst (λ (n : List ℕ). At c.loop-at.at (λ (q : ComponentState). false ≡ is_before n (component_name q)) c.args.slots.now)
    (sym e) c.if-is_before_at.ensures in
    c.loop-at.invariant p e ∙ placed_skip p c.args.slots.now c.loop-at.at h

pub returns-then-is_before_at-clause-placed : goal.returns-then-is_before_at-clause-placed
returns-then-is_before_at-clause-placed c = λ p e.
    let h = subst (λ (n : List ℕ). At c.loop-at.at (λ (q : ComponentState). true ≡ is_before n (component_name q)) c.args.slots.now)
    (sym e) c.if-is_before_at.ensures in
    placed_here p c.args.slots.now c.loop-at.at h ∙ sym (c.loop-at.invariant p e)

pub returns-clause-placed : goal.returns-clause-placed
returns-clause-placed c = λ p e. sym (c.loop-at.invariant p e ∙ placed_last p c.args.slots.now c.loop-at.at (omega arith))
