use Rattle.std.proofs.Common.{◌≡◌, [], List, ℕ, arith, ap, ◌∙◌}
use Rattle.std.specs.Prelude.{None}
use Rattle.std.specs.Vec.Iter.{into_iter_items}
use Rattle.config_ops.specs.declared.update.Update.{Update}
use Rattle.local_deploy.specs.Lists.{range_at}
use Rattle.local_deploy.proofs.Lookups.{Entries, none_left, put_all, put_new, puts_push, yielded_all, yielded_more}
use Rattle.local_deploy.proofs.document.by_name.Goals as goal

pub loop-name-init : goal.loop-name-init
loop-name-init c = record {
  ranges = λ q. ap (λ (l : Entries Update). range_at q l) c.new-named.ensures.empty;
  all = c.into_iter-name-iterator.ensures.into_iter_gives.0 ∙ c.into_vec-name-items.ensures;
}

pub loop-name-preserved : goal.loop-name-preserved
loop-name-preserved c =
    let x : List ℕ × Update = (c.in-Some.name, c.in-Some.update) in
    record {
      ranges = puts_push (λ _. None) c.loop-name.yielded x c.loop-name.named.entries c.insert.new.self.entries c.loop-name.invariant.ranges
          c.in_ok-insert.ensures.updates.0;
      all = yielded_more c.loop-name.yielded (into_iter_items c.loop-name.name-iterator) (into_iter_items c.next.new.self) c.args.updates x
          c.in-Some.ensures.steps.0 c.loop-name.invariant.all;
    }

pub returns : goal.returns
returns c =
    let left = into_iter_items c.loop-name.name-iterator in
    let none : left ≡ [] = none_left left (omega (arith, c.in-None.ensures.steps.0)) in
    let whole : c.loop-name.yielded ≡ c.args.updates = yielded_all c.loop-name.yielded left c.args.updates none
    c.loop-name.invariant.all in
    λ q. c.loop-name.invariant.ranges q ∙ ap (λ (l : Entries Update). put_all (λ _. None) l q) whole ∙ put_new c.args.updates q c.requires
