use Rattle.std.proofs.Common.{◌≡◌, ◌∙◌, sym, ap, Some}
use Rattle.std.specs.Option.{option_copied}
use Rattle.tree_core.proofs.ReadsBack.{reads_back}
use Rattle.device.specs.Devices.{device_view}
use Rattle.status_text.specs.Status.{status_tree}
use Rattle.status_text.proofs.Texts.{status_shown}
use Rattle.status_text.proofs.StatusDepth.{status_shallow}
use Rattle.status_text.proofs.StatusOrder.{status_orderly}
use Rattle.status_text.proofs.trees.status_json.Goals as goal

pub returns-clause-text : goal.returns-clause-text
returns-clause-text c =
    let o = c.unwrap.result.now in
    let is : c.args.device.now.origin ≡ Some o = sym c.as_ref.ensures.value ∙ ap option_copied c.unwrap.ensures in
    rw (c.in_ok-put_rest.ensures, c.in_ok-put_lists.ensures.text, c.empty-out.ensures) (status_shown (device_view c.args.device.now) o is)

pub returns-clause-reads_back : goal.returns-clause-reads_back
returns-clause-reads_back c =
    let d = device_view c.args.device.now in
    rw (returns-clause-text c) (reads_back (status_tree d) (status_orderly d c.requires.regular c.in_ok-put_lists.ensures.numbers)
    (status_shallow d c.requires.regular))
