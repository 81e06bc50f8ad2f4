use Rattle.std.proofs.Common.{◌≡◌, ◌++◌, ◌∙◌, ℕ, List, OnOk, subst}
use Rattle.std.specs.Prelude.{codes}
use Rattle.json.specs.Print.{quoted}
use Rattle.serde_json.specs.Written.{compact_text}
use Rattle.tree_core.specs.View.{view}
use Rattle.status_text.proofs.Joining.{joined3}
use Rattle.status_text.proofs.Texts.{component_text}
use Rattle.status_text.proofs.trees.ItemShown.show.Goals as goal

pub returns : goal.returns
returns c =
    let name = c.as_str-2.result.now in
    let version = c.as_str-3.result.now in
    let config : c.as_str.result.now ≡ compact_text (view c.args.self.now.config) = c.as_str.ensures ∙ c.in_ok-config.ensures.text in
    rw (
      ← component_text (view c.args.self.now.config) c.args.self.now.name c.args.self.now.version,
      ← config,
      ← c.as_str-2.ensures.value,
      ← c.text-version.ensures.value,
      ← c.as_str-3.ensures,
    )
    (subst (λ (t : List ℕ). OnOk c.put_pair.result (c.put_pair.new.out ≡ t))
    (joined3 c.args.out.now (codes "{\"config\":") c.as_str.result.now
    (codes ",\"name\":" ++ (quoted name ++ (codes ",\"version\":" ++ (quoted version ++ codes "}"))))
    _ _ c.in_ok-push_str.ensures.ok c.in_ok-push_str-2.ensures.ok)
    c.put_pair.ensures)
