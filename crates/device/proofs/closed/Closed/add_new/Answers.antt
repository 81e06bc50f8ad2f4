use Rattle.std.proofs.Common.{◌≡◌, Some, ◌∙◌, length, ap, sym}
use Rattle.std.specs.Ordering.{nat_cmp}
use Rattle.std.specs.Cmp.Lexicographic.{slice_cmp}
use Rattle.std.specs.BTreeMap.{get}
use Rattle.device.proofs.Indexing.{fresh_by, is_placed, placed_alone, placed_back, placed_with_entry}
use Rattle.device.proofs.closed.Closed.add_new.Goals as goal

pub invariant_of-self-in-Some : goal.invariant_of-self-in-Some
invariant_of-self-in-Some c =
    let es = c.self.inside.list.items in
    let id = c.args.id in
    let placed = is_placed id c.in_ok-key.key (length es) c.len.result c.self.inside.places c.insert.new.self c.in_ok-key.ensures
    (c.len.ensures ∙ c.self.inside.list.ok.0) c.in_ok-before.ensures.updates.0 in
    let was : get (slice_cmp nat_cmp) c.self.inside.places id ≡ Some c.in-Some.at =
    sym (c.in_ok-before.ensures.old ∙ ap (get (slice_cmp nat_cmp) c.self.inside.places) c.in_ok-key.ensures) ∙ c.in-Some.is in
    placed_back es id (length es) c.in-Some.at c.self.inside.places c.insert.new.self c.insert-in-Some.new.self c.self.invariant was placed
    c.in_ok-insert.ensures.updates.0

pub invariant_of-self-in_err-push : goal.invariant_of-self-in_err-push
invariant_of-self-in_err-push c =
    let es = c.self.inside.list.items in
    let id = c.args.id in
    let fresh = fresh_by es c.as_slice.result.now id c.in_ok-key.key c.self.inside.places c.in_ok-before.before c.self.invariant c.as_slice.ensures.value
    c.in_ok-key.ensures c.in_ok-before.ensures.old (sym c.if-is_entry.ensures) in
    let placed = is_placed id c.in_ok-key.key (length es) c.len.result c.self.inside.places c.insert.new.self c.in_ok-key.ensures
    (c.len.ensures ∙ c.self.inside.list.ok.0) c.in_ok-before.ensures.updates.0 in
    rw c.in_err-push.ensures.items (placed_alone es id c.self.inside.places c.insert.new.self c.self.invariant fresh placed)

pub invariant_of-self-2 : goal.invariant_of-self-2
invariant_of-self-2 c =
    let es = c.self.inside.list.items in
    let id = c.args.id in
    let fresh = fresh_by es c.as_slice.result.now id c.in_ok-key.key c.self.inside.places c.in_ok-before.before c.self.invariant c.as_slice.ensures.value
    c.in_ok-key.ensures c.in_ok-before.ensures.old (sym c.if-is_entry.ensures) in
    let placed = is_placed id c.in_ok-key.key (length es) c.len.result c.self.inside.places c.insert.new.self c.in_ok-key.ensures
    (c.len.ensures ∙ c.self.inside.list.ok.0) c.in_ok-before.ensures.updates.0 in
    rw c.in_ok-push.ensures.items (placed_with_entry es id c.args.outcome c.self.inside.places c.insert.new.self c.self.invariant fresh placed)
