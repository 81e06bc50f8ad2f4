use Rattle.std.proofs.Common.{List, map, sym, ap, subst, ◌∙◌}
use Rattle.records.specs.declared.record.Requirement.{Requirement}
use Rattle.deployment_doc.specs.Sound.{AreSound}
use Rattle.device.specs.Plans.{AreRequirements, AreRising, requirement_name}
use Rattle.config_cmd.specs.Documents.{root_for}
use Rattle.config_cmd.proofs.Finding.{group_sound}
use Rattle.config_cmd.proofs.Rooting.{roots_sound}
use Rattle.config_cmd.proofs.document.config_document.Goals as goal

pub roots_for-requires : goal.roots_for-requires
roots_for-requires c =
    let are : AreRequirements c.in-Some.group.now.requirements = group_sound c.args.name.now c.args.device.now.groups.list c.in-Some.group.now
    c.requires.sound.groups.requirements c.in-Some.ensures in
    subst (λ (l : List Requirement). AreRising (map requirement_name l)) (sym c.as_slice-2.ensures) are.rise

pub returns-clause-sound : goal.returns-clause-sound
returns-clause-sound c =
    let are : AreRequirements c.in-Some.group.now.requirements = group_sound c.args.name.now c.args.device.now.groups.list c.in-Some.group.now
    c.requires.sound.groups.requirements c.in-Some.ensures in
    subst AreSound (sym (c.in_ok-roots.ensures ∙ ap (map (root_for c.args.name.now c.args.change.update)) c.as_slice-2.ensures))
    (roots_sound c.args.name.now c.args.change.update c.in-Some.group.now.requirements are c.requires.object)
