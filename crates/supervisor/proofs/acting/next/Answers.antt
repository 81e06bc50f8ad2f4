use Rattle.std.proofs.Common.{◌≡◌, ◌∙◌, List, ap, false, length, refl, subst, sym}
use Rattle.std.specs.List.{list_any}
use Rattle.components.specs.Acts.{NextAct}
use Rattle.components.specs.Flags.{at_moment}
use Rattle.components.specs.Readied.{IsKept}
use Rattle.components.specs.Turns.{owes}
use Rattle.components.specs.Whole.{AreWhole}
use Rattle.components.specs.Components.{ComponentState}
use Rattle.supervisor.proofs.Deeds.{next_told, told_length, told_sound}
use Rattle.supervisor.proofs.acting.next.Goals as goal

pub tell_first-requires-clause-few : goal.tell_first-requires-clause-few
tell_first-requires-clause-few c = c.requires.kept.few

pub tell_first-requires-clause-names : goal.tell_first-requires-clause-names
tell_first-requires-clause-names c = c.requires.kept.names

pub returns-in-Some-clause-next : goal.returns-in-Some-clause-next
returns-in-Some-clause-next c =
    let m = c.args.moment in
    next_told (at_moment c.args.slots.now m c.args.steady) (at_moment c.tell_first.new.slots m c.args.steady) c.in-Some.act
    (c.in-Some.ensures.some m c.args.steady)

pub returns-in-Some-clause-kept : goal.returns-in-Some-clause-kept
returns-in-Some-clause-kept c =
    let m = c.args.moment in
    let t = c.in-Some.ensures.handed_out in
    let s = told_sound t.0 (at_moment c.args.slots.now m c.args.steady) (at_moment c.tell_first.new.slots m c.args.steady)
    (ap (λ (ps : List ComponentState). at_moment ps m c.args.steady) t.1) (record { kept = c.requires.kept; whole = c.requires.whole }) in
    s.kept

pub returns-in-Some-clause-whole : goal.returns-in-Some-clause-whole
returns-in-Some-clause-whole c =
    let m = c.args.moment in
    let t = c.in-Some.ensures.handed_out in
    let s = told_sound t.0 (at_moment c.args.slots.now m c.args.steady) (at_moment c.tell_first.new.slots m c.args.steady)
    (ap (λ (ps : List ComponentState). at_moment ps m c.args.steady) t.1) (record { kept = c.requires.kept; whole = c.requires.whole }) in
    s.whole

pub returns-in-Some-clause-many : goal.returns-in-Some-clause-many
returns-in-Some-clause-many c = let t = c.in-Some.ensures.handed_out in c.requires.many ∙ sym (told_length t.0 c.args.slots.now c.tell_first.new.slots t.1)

pub act_first-requires-clause-many : goal.act_first-requires-clause-many
act_first-requires-clause-many c = let n = c.in-None.ensures.none refl in c.requires.many ∙ sym (ap length n.1)

pub act_first-requires-clause-kept : goal.act_first-requires-clause-kept
act_first-requires-clause-kept c = let n = c.in-None.ensures.none refl in
    subst (λ (ps : List ComponentState). IsKept (at_moment ps c.args.moment c.args.steady)) (sym n.1) c.requires.kept

pub act_first-requires-clause-whole : goal.act_first-requires-clause-whole
act_first-requires-clause-whole c = let n = c.in-None.ensures.none refl in subst AreWhole (sym n.1) c.requires.whole

pub act_first-requires-clause-owes_none : goal.act_first-requires-clause-owes_none
act_first-requires-clause-owes_none c = let n = c.in-None.ensures.none refl in subst (λ (ps : List ComponentState). list_any owes ps ≡ false) (sym n.1) n.0

pub returns-in-None-clause-next : goal.returns-in-None-clause-next
returns-in-None-clause-next c =
    let n = c.in-None.ensures.none refl in
    let m = c.args.moment in
    subst (λ (ps : List ComponentState). NextAct (at_moment ps m c.args.steady) c.act_first.result (at_moment c.act_first.new.slots m c.args.steady)) n.1
    c.act_first.ensures.next
