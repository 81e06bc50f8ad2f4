use Rattle.std.proofs.Common.{◌≡◌, ◌++◌, ◌+◌, List, map, drop, sym, subst, ◌∙◌, None, Some}
use Rattle.std.specs.Prelude.{if◌then◌else◌}
use Rattle.std.specs.Str.{bytes_eq}
use Rattle.deployment_doc.specs.declared.document.Root.{Root}
use Rattle.config_cmd.specs.Documents.{root_for}
use Rattle.config_cmd.proofs.Rooting.{gives, keeps, pushes, root_is}
use Rattle.config_cmd.proofs.document.roots_for.Goals as goal

pub loop-requirement-preserved : goal.loop-requirement-preserved
loop-requirement-preserved c =
    let n = c.args.name.now in
    let u = c.args.update in
    let rs = c.args.requirements.now in
    let i = c.loop-requirement.requirement-index in
    let r = c.requirement-item.result in
    let below = c.loop-requirement-test.true in
    let at = c.requirement-item.is in
    let here : c.eq-here.result ≡ bytes_eq n r.name = c.eq-here.ensures in
    let update : c.in_ok-root.root.update ≡ (if bytes_eq n r.name then Some u else None) = c.in_ok-root.ensures.update ∙ c.given.ensures.value
    ∙ gives n u rs i r c.loop-requirement.left c.requires below at c.loop-requirement.invariant.left c.eq-here.result here in
    let root : c.in_ok-root.root ≡ root_for n u r = root_is n u rs c.in_ok-root.root r c.in_ok-root.ensures.name c.in_ok-root.ensures.range update in
    record {
      made = subst (λ (l : List Root). l ++ map (root_for n u) (drop (i + 1) rs) ≡ map (root_for n u) rs) (sym c.in_ok-push.ensures.items)
          (pushes n u rs c.loop-requirement.roots.items i r c.in_ok-root.root below at root c.loop-requirement.invariant.made);
      left = λ none. c.given.ensures.after ∙ keeps n u rs i r c.loop-requirement.left below at c.loop-requirement.invariant.left c.eq-here.result here none;
    }
