use Rattle.std.proofs.Common.{◌≡◌, refl, subst, sym, true}
use Rattle.std.specs.Prelude.{◌||◌, Some}
use Rattle.lifecycle.specs.declared.kinds.After.{After}
use Rattle.components.specs.Components.{component_name, is_again, is_gone}
use Rattle.components.specs.Turns.{is_held_far, is_held_for}
use Rattle.supervisor.proofs.acting.is_held_for.Goals as goal

pub returns-in-Restart : goal.returns-in-Restart
returns-in-Restart c = subst (λ (a : After). c.is_held.result ≡ is_held_for a (component_name c.args.slot.now) c.args.slots.now) (sym c.in-Restart.is)
    c.is_held.ensures

pub returns-in-Again : goal.returns-in-Again
returns-in-Again c =
    let f = subst (λ (a : After). (is_again (Some a) || is_gone (Some a)) ≡ true → c.args.flag ≡ is_held_far (component_name c.args.slot.now) c.args.slots.now)
    c.in-Again.is c.requires in
    subst (λ (a : After). c.args.flag ≡ is_held_for a (component_name c.args.slot.now) c.args.slots.now) (sym c.in-Again.is) (f refl)

pub returns-in-Gone : goal.returns-in-Gone
returns-in-Gone c =
    let f = subst (λ (a : After). (is_again (Some a) || is_gone (Some a)) ≡ true → c.args.flag ≡ is_held_far (component_name c.args.slot.now) c.args.slots.now)
    c.in-Gone.is c.requires in
    subst (λ (a : After). c.args.flag ≡ is_held_for a (component_name c.args.slot.now) c.args.slots.now) (sym c.in-Gone.is) (f refl)
