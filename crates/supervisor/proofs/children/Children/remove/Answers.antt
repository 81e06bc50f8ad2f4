use Rattle.std.proofs.Common.{◌≡◌, rules, not, ◌==◌, filter}
use Rattle.std.proofs.lemmas.Fn.{filter_same}
use Rattle.components.specs.Components.{Child}
use Rattle.supervisor.proofs.Once.{once_filtered}
use Rattle.supervisor.proofs.children.Children.remove.Goals as goal

pub returns : goal.returns
returns c = rw (← c.self.view_is) (filter_same _ (λ (d : Child). not (d.number == c.args.number)) _ (λ x b f' k. search rules) _ _ c.retain.ensures.filtered)

pub invariant_of-self : goal.invariant_of-self
invariant_of-self c =
    let e : c.retain.new.self.items ≡ filter (λ (d : Child). not (d.number == c.args.number)) c.self.inside.list.items =
    filter_same _ (λ (d : Child). not (d.number == c.args.number)) _ (λ x b f' k. search rules) _ _ c.retain.ensures.filtered in (
      rw c.retain.ensures.capacity c.self.invariant.0,
      rw e (once_filtered (λ (d : Child). not (d.number == c.args.number)) c.self.inside.list.items
          c.self.invariant.1),
    )
