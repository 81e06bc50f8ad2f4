use Rattle.std.proofs.Common.{◌≡◌, [], List, ℕ, length, arith, ap, ◌∙◌}
use Rattle.std.specs.List.{list_any}
use Rattle.std.specs.Prelude.{Option, None, is_some, if◌then◌else◌}
use Rattle.std.specs.Str.{bytes_eq}
use Rattle.std.specs.Vec.Iter.{into_iter_items}
use Rattle.local_deploy.specs.Lists.{Asked, asked_in, range_at}
use Rattle.local_deploy.proofs.Lookups.{few_more, none_left, put_all, put_over, puts_push, yielded_all, yielded_more}
use Rattle.local_deploy.proofs.list.local_list.Goals as goal

pub loop-name-init : goal.loop-name-init
loop-name-init c =
    let few = c.in_ok-list.ensures.few in
    record {
      ranges = c.in_ok-list.ensures.ranges;
      few = omega (arith, few);
      rises = c.in_ok-list.ensures.rises;
      all = c.into_iter-name-iterator.ensures.into_iter_gives.0 ∙ c.into_vec-name-items.ensures;
    }

pub loop-name-preserved : goal.loop-name-preserved
loop-name-preserved c =
    let kept : List ℕ → Option (List ℕ) = λ n. if list_any (bytes_eq n) c.args.remove.now then None else range_at n (asked_in c.args.asked.now) in
    let x : List ℕ × List ℕ = (c.in-Some.name, c.in-Some.range) in
    let es : Asked = c.loop-name.list.entries in
    let fs : Asked = c.insert.new.self.entries in
    record {
      ranges = puts_push kept c.loop-name.yielded x es fs c.loop-name.invariant.ranges c.in_ok-insert.ensures.updates.0;
      few = few_more c.loop-name.yielded x (is_some c.in_ok-insert.field-0) (length fs) (length es) (length c.args.asked.now) c.in_ok-insert.ensures.len
          c.loop-name.invariant.few;
      rises = c.in_ok-insert.ensures.ordered;
      all = yielded_more c.loop-name.yielded (into_iter_items c.loop-name.name-iterator) (into_iter_items c.next.new.self) c.args.merge x
          c.in-Some.ensures.steps.0 c.loop-name.invariant.all;
    }

pub returns-clause-list : goal.returns-clause-list
returns-clause-list c =
    let kept : List ℕ → Option (List ℕ) = λ n. if list_any (bytes_eq n) c.args.remove.now then None else range_at n (asked_in c.args.asked.now) in
    let left = into_iter_items c.loop-name.name-iterator in
    let none : left ≡ [] = none_left left (omega (arith, c.in-None.ensures.steps.0)) in
    let whole : c.loop-name.yielded ≡ c.args.merge = yielded_all c.loop-name.yielded left c.args.merge none
    c.loop-name.invariant.all in
    record {
      rises = c.loop-name.invariant.rises;
      ranges = λ q. c.loop-name.invariant.ranges q ∙ ap (λ (l : Asked). put_all kept l q) whole ∙ put_over kept c.args.merge q c.requires.merge;
    }

pub returns-clause-few : goal.returns-clause-few
returns-clause-few c =
    let left = into_iter_items c.loop-name.name-iterator in
    let none : left ≡ [] = none_left left (omega (arith, c.in-None.ensures.steps.0)) in
    let whole : c.loop-name.yielded ≡ c.args.merge = yielded_all c.loop-name.yielded left c.args.merge none
    c.loop-name.invariant.all in
    let long = ap length whole in
    let few = c.loop-name.invariant.few in
    omega (arith, long, few)
