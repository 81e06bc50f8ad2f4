use Rattle.std.proofs.Common.{◌≡◌, ◌<◌, ◌≤◌, ◌∙◌, ℕ, List, true, ap, arith, get_or, length, map, sym, subst}
use Rattle.std.specs.Prelude.{filter}
use Rattle.std.specs.List.{AllZip}
use Rattle.std.proofs.lemmas.List.{take_all}
use Rattle.records.specs.Stored.{item_view}
use Rattle.records.specs.declared.record.Item as code
use Rattle.device.specs.Lawful.{goes_back}
use Rattle.components.specs.declared.kinds.Prepared.{Prepared}
use Rattle.session_boots.specs.Made.{AreBootsOf, IsBootOf}
use Rattle.session_admission.proofs.GoingBack.{is_boot, zip_none, zip_one}
use Rattle.session_admission.proofs.Listed.{listed}
use Rattle.session_admission.proofs.backs.prepare_backs.Goals as goal
use Rattle.session_admission.proofs.backs.prepare_backs.Goals.{then-back+in_ok-prepare_boot+in_ok-push, else-back}

pub prepare_boot-requires-clause-boot : goal.prepare_boot-requires-clause-boot
prepare_boot-requires-clause-boot c =
    let p = c.args.origin.now.platform in
    is_boot c.recipe_laws.ensures.boot_back p (map item_view c.args.set.now) c.name-item.result c.requires.items.recipes
    (subst (λ (xs : List code.Item). goes_back p (map item_view xs) c.name-item.result ≡ true) c.as_slice.ensures (sym c.in_ok-back.ensures ∙ c.if-back.true))

pub loop-name-preserved : goal.loop-name-preserved
loop-name-preserved c =
    let origin = c.args.origin.now in
    let set = map item_view c.args.set.now in
    let p = goes_back origin.platform set in
    let R = IsBootOf origin set in
    let names : List (List ℕ) = c.args.names.now in
    let i = c.loop-name.name-index in
    let x = c.name-item.result in
    let ys = c.loop-name.made.items in
    let long = ap length c.as_slice-name-items.ensures in
    let below : i < length names = omega (arith, long) in
    let is : x ≡ get_or names i x = subst (λ (l : List (List ℕ)). x ≡ get_or l i x) c.as_slice-name-items.ensures c.name-item.is in
    let told : c.in_ok-back.back ≡ p x = subst (λ (xs : List code.Item). c.in_ok-back.back ≡ goes_back origin.platform (map item_view xs) x)
    c.as_slice.ensures c.in_ok-back.ensures in
    elim c.if-back.branch [
      | then-back+in_ok-prepare_boot+in_ok-push w ↦
          rw (w.made-is, w.in_ok-push.ensures.items)
          (zip_one R p names ys i x below is c.loop-name.invariant (sym told ∙ w.if-back.true) w.in_ok-prepare_boot.field-0 w.in_ok-prepare_boot.ensures)
      | else-back w ↦ rw w.made-is (zip_none R p names ys i x below is c.loop-name.invariant (sym told ∙ w.if-back.false))
    ]

pub returns : goal.returns
returns c =
    let origin = c.args.origin.now in
    let set = map item_view c.args.set.now in
    let p = goes_back origin.platform set in
    let names : List (List ℕ) = c.args.names.now in
    let long = ap length c.as_slice-name-items.ensures in
    let past : length names ≤ c.loop-name.name-index = omega (arith, long) in
    let zip : AllZip (IsBootOf origin set) (filter p names) c.loop-name.made.items =
    subst (λ (l : List (List ℕ)). AllZip (IsBootOf origin set) (filter p l) c.loop-name.made.items) (take_all c.loop-name.name-index names past)
    c.loop-name.invariant in
    subst (λ (made : List Prepared). AreBootsOf origin set (filter p names) made) (sym c.new.ensures)
    (listed origin set (filter p names) c.loop-name.made.items zip)
