use Rattle.std.proofs.Common.{◌≡◌, ◌≤◌, List, ℕ, length, map, refl, inr, arith, sym, subst, ◌∙◌}
use Rattle.std.specs.Prelude.{Option, None, Some, IsSome, if◌then◌else◌}
use Rattle.std.specs.Cmp.Lexicographic.{slice_cmp}
use Rattle.std.specs.List.Sorted.{IsStrictlySortedBy}
use Rattle.std.specs.Map.{keys_of}
use Rattle.std.specs.Ordering.{nat_cmp}
use Rattle.config_ops.specs.declared.update.Update.{Update}
use Rattle.deployment_doc.specs.Sound.{AreSound}
use Rattle.records.specs.declared.record.Requirement.{Requirement}
use Rattle.device.specs.Devices.{device_view}
use Rattle.device.specs.Plans.{AreRequirements}
use Rattle.local_deploy.specs.Documents.{HasNone, IsLeast, IsListAfter, IsNotAsked, IsUnlisted, root_for}
use Rattle.local_deploy.specs.Lists.{Asked, asked_in, local_requirements, IsLocalList, range_at}
use Rattle.local_deploy.proofs.Lookups.{Entries, by_bytes}
use Rattle.local_deploy.proofs.Making.{empty_from, left_of, list_after}
use Rattle.local_deploy.proofs.Rooting.{all_listed, asked_names, first_left, has_name, local_sound, roots_same, roots_sound}
use Rattle.local_deploy.proofs.document.local_document.Goals as goal

pub local_list-requires-clause-asked : goal.local_list-requires-clause-asked
local_list-requires-clause-asked c =
    let rs : List Requirement = local_requirements c.args.device.now.groups.list in
    let are : AreRequirements rs = local_sound c.args.device.now.groups.list c.requires.device.groups.requirements in
    subst (λ (l : List Requirement). IsStrictlySortedBy (slice_cmp nat_cmp) (keys_of (asked_in l))) (sym c.asked_of-asked.ensures)
    (subst (IsStrictlySortedBy (slice_cmp nat_cmp)) (sym (asked_names rs)) are.rise)

pub overflow_cast-result : goal.overflow_cast-result
overflow_cast-result c =
    let are : AreRequirements (local_requirements c.args.device.now.groups.list) = local_sound c.args.device.now.groups.list
    c.requires.device.groups.requirements in
    let asked : length c.asked_of-asked.result.now ≤ 128 = subst (λ (l : List Requirement). length l ≤ 128) (sym c.asked_of-asked.ensures) are.few in
    let few = c.in_ok-list.ensures.few in
    let merged = c.requires.request.few_merged in
    let size = c.len-then-len-gt-MOST_REQUIREMENTS.ensures.len in
    omega (arith, asked, few, merged, size)

pub returns-then-len-gt-MOST_REQUIREMENTS-clause-exact : goal.returns-then-len-gt-MOST_REQUIREMENTS-clause-exact
returns-then-len-gt-MOST_REQUIREMENTS-clause-exact c =
    let d = device_view c.args.device.now in
    let request = c.args.request in
    let list : Asked = c.in_ok-list.list.entries in
    let after : IsListAfter d request list = list_after d request c.asked_of-asked.result.now c.asked_of-asked.ensures list
    (subst (λ (l : List (List ℕ)). HasNone (IsNotAsked (asked_in c.asked_of-asked.result.now) l)) c.as_slice.ensures c.in_default.ensures)
    (subst (λ (l : List (List ℕ)). IsLocalList (asked_in c.asked_of-asked.result.now) request.merge l list) c.as_slice-2.ensures c.in_ok-list.ensures.list) in
    let size = c.len.ensures.len in
    let many = c.if-len-gt-MOST_REQUIREMENTS.true in
    inr (list, after, c.len-then-len-gt-MOST_REQUIREMENTS.ensures.len, omega (arith, size, many))

pub returns-in-Some-first_key_value-clause-exact : goal.returns-in-Some-first_key_value-clause-exact
returns-in-Some-first_key_value-clause-exact c =
    let d = device_view c.args.device.now in
    let request = c.args.request in
    let list : Asked = c.in_ok-list.list.entries in
    let after : IsListAfter d request list = list_after d request c.asked_of-asked.result.now c.asked_of-asked.ensures list
    (subst (λ (l : List (List ℕ)). HasNone (IsNotAsked (asked_in c.asked_of-asked.result.now) l)) c.as_slice.ensures c.in_default.ensures)
    (subst (λ (l : List (List ℕ)). IsLocalList (asked_in c.asked_of-asked.result.now) request.merge l list) c.as_slice-2.ensures c.in_ok-list.ensures.list) in
    let size = c.len.ensures.len in
    let few : length list ≤ 128 = omega (arith, size, c.if-len-gt-MOST_REQUIREMENTS.false) in
    let left : Entries Update = c.roots_of.new.updates.entries in
    let taken : (q : List ℕ) → range_at q left ≡ (if has_name q list then None else range_at q request.updates) =
    left_of request.updates c.in_ok-left.left.entries left list c.in_ok-left.ensures c.in_ok-roots.ensures.left in
    let n = c.in-Some-first_key_value.name.now in
    let u = c.in-Some-first_key_value.field-0-1.now in
    let found : range_at n left ≡ Some u = sym (by_bytes n left) ∙ c.in-Some-first_key_value.ensures.value in
    let least : IsLeast (IsUnlisted list request.updates) n = first_left request.updates list left taken n u found
    (λ other some. c.in-Some-first_key_value.ensures.least other (subst (λ (o : Option Update). IsSome o) (sym (by_bytes other left)) some)) in
    inr (list, after, few, subst (IsLeast (IsUnlisted list request.updates)) (sym c.in_ok-copy-2.ensures) least)

pub returns-clause-exact : goal.returns-clause-exact
returns-clause-exact c =
    let d = device_view c.args.device.now in
    let request = c.args.request in
    let list : Asked = c.in_ok-list.list.entries in
    let after : IsListAfter d request list = list_after d request c.asked_of-asked.result.now c.asked_of-asked.ensures list
    (subst (λ (l : List (List ℕ)). HasNone (IsNotAsked (asked_in c.asked_of-asked.result.now) l)) c.as_slice.ensures c.in_default.ensures)
    (subst (λ (l : List (List ℕ)). IsLocalList (asked_in c.asked_of-asked.result.now) request.merge l list) c.as_slice-2.ensures c.in_ok-list.ensures.list) in
    let size = c.len.ensures.len in
    let few : length list ≤ 128 = omega (arith, size, c.if-len-gt-MOST_REQUIREMENTS.false) in
    let left : Entries Update = c.roots_of.new.updates.entries in
    let taken : (q : List ℕ) → range_at q left ≡ (if has_name q list then None else range_at q request.updates) =
    left_of request.updates c.in_ok-left.left.entries left list c.in_ok-left.ensures c.in_ok-roots.ensures.left in
    record {
      list = list;
      after = after;
      few = few;
      listed = all_listed request.updates list left taken (empty_from left c.in_default-first_key_value.ensures.variant.1);
      id = refl;
      group = c.in_ok-group.ensures;
      revision = refl;
      policy = refl;
      roots = c.in_ok-roots.ensures.roots ∙ roots_same c.in_ok-left.left.entries request.updates c.in_ok-left.ensures list;
    }

pub returns-clause-sound : goal.returns-clause-sound
returns-clause-sound c =
    let request = c.args.request in
    let list : Asked = c.in_ok-list.list.entries in
    let size = c.len.ensures.len in
    let few : length list ≤ 128 = omega (arith, size, c.if-len-gt-MOST_REQUIREMENTS.false) in
    let is : c.in_ok-roots.roots ≡ map (root_for request.updates) list = c.in_ok-roots.ensures.roots
    ∙ roots_same c.in_ok-left.left.entries request.updates c.in_ok-left.ensures list in
    subst AreSound (sym is) (roots_sound request.updates list few c.in_ok-list.ensures.list.rises c.requires.request.objects)
