use Rattle.std.proofs.Common.{sym, ap, ◌∙◌}
use Rattle.std.proofs.lemmas.Slice.Eq.{bytes_eq-Decides}
use Rattle.std.proofs.lemmas.Bool.{false≢true}
use Rattle.serde_json.specs.Written.{compact_text}
use Rattle.tree_core.specs.View.{view}
use Rattle.records.proofs.Leaves.{tree_found, no_tree, tree_fails, some_is}
use Rattle.records.proofs.texts.tree_of.Goals as goal

pub returns-in-Err : goal.returns-in-Err
returns-in-Err c = tree_fails c.args.text.now c.in-Err.fault c.stop_of.result c.in-Err.ensures.err c.stop_of.ensures

pub returns-then-eq : goal.returns-then-eq
returns-then-eq c =
    let t = c.args.text.now in
    let read = c.in-Ok.ensures.ok in
    let spelled = c.as_bytes.ensures ∙ c.in_ok-spelled.ensures.text in
    let same = (bytes_eq-Decides c.as_bytes.result.now t).0 (sym c.eq.ensures ∙ c.if-eq.true) in
    tree_found t (view c.in-Ok.tree) (record {
      json = read.json;
      shallow = read.shallow;
      no_float = read.whole;
      utf8 = c.in-Ok.ensures.regular.utf8;
      text =
          sym spelled ∙ same;
    })

pub returns-else-eq : goal.returns-else-eq
returns-else-eq c =
    let t = c.args.text.now in
    let d = view c.in-Ok.tree in
    let read = c.in-Ok.ensures.ok in
    let spelled = c.as_bytes.ensures ∙ c.in_ok-spelled.ensures.text in
    no_tree t (λ x h.
    let one = some_is d x (sym read.json.value ∙ h.json.value) in
    let same = spelled ∙ ap compact_text one ∙ h.text in
    false≢true (sym c.if-eq.false ∙ c.eq.ensures ∙ (bytes_eq-Decides c.as_bytes.result.now t).1 same))
