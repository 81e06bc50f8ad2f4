use Rattle.std.proofs.Common.{◌≡◌, ◌≤◌, ◌+◌, List, ℕ, length, take, arith, sym, ap, subst, ◌∙◌}
use Rattle.std.specs.BTreeMap.{BTreeMap}
use Rattle.std.specs.Cmp.Lexicographic.{slice_cmp}
use Rattle.std.specs.List.Sorted.{IsStrictlySortedBy}
use Rattle.std.specs.Map.{keys_of}
use Rattle.std.specs.Ordering.{nat_cmp}
use Rattle.std.specs.Prelude.{Some, is_some}
use Rattle.records.specs.declared.record.Requirement.{Requirement}
use Rattle.local_deploy.specs.Lists.{Asked, range_at}
use Rattle.local_deploy.proofs.Lookups.{Puts, kept_all, kept_at, kept_with, kept_without, one_at_most}
use Rattle.local_deploy.proofs.list.kept.Goals as goal
use Rattle.local_deploy.proofs.list.kept.Goals.{then-not-has_name+in_ok-copy+in_ok-copy-2+in_ok-insert, else-not-has_name}

pub loop-requirement-preserved : goal.loop-requirement-preserved
loop-requirement-preserved c =
    let remove : List (List ℕ) = c.args.remove.now in
    let rs : List Requirement = c.args.asked.now in
    let i = c.loop-requirement.requirement-index in
    let r : Requirement = c.requirement-item.result in
    let below = c.loop-requirement-test.true in
    let at = c.requirement-item.is in
    let es : Asked = c.loop-requirement.kept.entries in
    elim c.if-not-has_name.branch [
      | then-not-has_name+in_ok-copy+in_ok-copy-2+in_ok-insert w ↦
          let fs : Asked = w.insert.new.self.entries in
          let is : c.if-not-has_name.kept.entries ≡ fs = ap (λ (m : BTreeMap (List ℕ) (List ℕ)). m.entries) w.kept-is in
          let puts : Puts es r.name (Some r.range) fs = subst (λ (n : List ℕ). Puts es n (Some r.range) fs) w.in_ok-copy.ensures
          (subst (λ (v : List ℕ). Puts es w.in_ok-copy.field-0 (Some v) fs) w.in_ok-copy-2.ensures w.in_ok-insert.ensures.updates.0) in
          record {
            ranges = subst (λ (l : Asked). (q : List ℕ) → range_at q l ≡ kept_at remove (take (i + 1) rs) q) (sym is)
                (kept_with remove rs i r below at es fs (sym c.has_name.ensures ∙ w.if-not-has_name.true) c.loop-requirement.invariant.ranges puts);
            few = subst (λ (l : Asked). length l ≤ i + 1) (sym is)
                (one_at_most (is_some w.in_ok-insert.field-0) (length fs) (length es) i w.in_ok-insert.ensures.len c.loop-requirement.invariant.few);
            rises = subst (λ (l : Asked). IsStrictlySortedBy (slice_cmp nat_cmp) (keys_of l)) (sym is) w.in_ok-insert.ensures.ordered;
          }
      | else-not-has_name w ↦
          let is : c.if-not-has_name.kept.entries ≡ es = ap (λ (m : BTreeMap (List ℕ) (List ℕ)). m.entries) w.kept-is in
          let few = c.loop-requirement.invariant.few in
          record {
            ranges = subst (λ (l : Asked). (q : List ℕ) → range_at q l ≡ kept_at remove (take (i + 1) rs) q) (sym is)
                (kept_without remove rs i r below at es (sym c.has_name.ensures ∙ w.if-not-has_name.false) c.loop-requirement.invariant.ranges);
            few = subst (λ (l : Asked). length l ≤ i + 1) (sym is) (omega (arith, few));
            rises = subst (λ (l : Asked). IsStrictlySortedBy (slice_cmp nat_cmp) (keys_of l)) (sym is) c.loop-requirement.invariant.rises;
          }
    ]

pub returns-clause-ranges : goal.returns-clause-ranges
returns-clause-ranges c =
    let rs : List Requirement = c.args.asked.now in
    let past : length rs ≤ c.loop-requirement.requirement-index = omega (arith, c.loop-requirement-test.false) in
    kept_all c.args.remove.now rs c.loop-requirement.requirement-index c.loop-requirement.kept.entries past c.requires c.loop-requirement.invariant.ranges
