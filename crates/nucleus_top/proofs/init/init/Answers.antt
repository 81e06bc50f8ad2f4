use Rattle.std.proofs.Common.{◌∙◌, arith, Err, ap, sym, subst}
use Rattle.checkpoint_log.specs.Slots.{slots_none}
use Rattle.command_words.specs.declared.order.Order.TheVariants.{Init}
use Rattle.deploy_state.specs.States.{loaded_device}
use Rattle.deploy_state.specs.declared.fault.LoadFault.{LoadFault}
use Rattle.disk_model.specs.Disk.{Image}
use Rattle.nucleus_top.specs.Answers.{Store, store_of}
use Rattle.nucleus_top.specs.Inits.{InitAnswer}
use Rattle.nucleus_top.specs.Opening.{OpenAnswer}
use Rattle.nucleus_top.proofs.Faults.{refuses, refused_inits, refused_keeps, other_fault}
use Rattle.nucleus_top.proofs.Images.{then_order, only_allowed, store_after}
use Rattle.nucleus_top.proofs.InitEnds.{names_comes, names_keeps}
use Rattle.nucleus_top.proofs.init.init.Goals as goal

pub initialised_stored-requires : goal.initialised_stored-requires
initialised_stored-requires g c = record { ready = c.in-Ok.ensures.ready }

pub begin-requires-clause-none : goal.begin-requires-clause-none
begin-requires-clause-none g c = λ is_modelled.
    let image = g.D.Disk.seen c.args.disk.now in
    let none : slots_none image = subst (λ (f : LoadFault). OpenAnswer image (Err f)) c.in-NotInitialised.is (c.in-Err.ensures.told is_modelled) in
    subst slots_none (sym c.open.ensures.seen) none

pub begin-requires-clause-settled : goal.begin-requires-clause-settled
begin-requires-clause-settled g c = c.in-Err.ensures.settled (λ is. cc)

pub returns-in-Ok-clause-comes : goal.returns-in-Ok-clause-comes
returns-in-Ok-clause-comes g c =
    let store : Store = store_of g.D.Disk.is_modelled g.D.Disk.seen g.D.Disk.faults c.args.disk.now c.open.new.disk in
    names_comes c.args.origin store (loaded_device c.in-Ok.state) c.initialised_stored.result c.initialised_stored.ensures c.open.ensures.seen
    c.in-Ok.ensures.told

pub returns-in-Ok-clause-moments : goal.returns-in-Ok-clause-moments
returns-in-Ok-clause-moments g c = only_allowed g.met.D.Disk.laws (Init c.args.origin) c.args.disk.now c.open.new.disk c.open.ensures.moments

pub returns-in-Ok-clause-keeps : goal.returns-in-Ok-clause-keeps
returns-in-Ok-clause-keeps g c =
    names_keeps (Init c.args.origin) (g.D.Disk.may_leave c.open.new.disk) (g.D.Disk.seen c.open.new.disk) (loaded_device c.in-Ok.state)
    c.initialised_stored.result c.initialised_stored.ensures

pub returns-in-Ok-clause-others : goal.returns-in-Ok-clause-others
returns-in-Ok-clause-others g c = λ is_modelled name other. ap (λ (s : Image). s name) c.open.ensures.seen

pub returns-in-Ok-clause-quiet : goal.returns-in-Ok-clause-quiet
returns-in-Ok-clause-quiet g c = λ other. c.in-Ok.ensures.quiet (λ is. cc)

pub returns-in-NotInitialised-clause-comes : goal.returns-in-NotInitialised-clause-comes
returns-in-NotInitialised-clause-comes g c =
    subst (λ (s : Store). InitAnswer c.args.origin s c.begin.result)
    (store_after g.D.Disk.is_modelled g.D.Disk.seen g.D.Disk.faults c.args.disk.now c.open.new.disk c.begin.new.disk c.open.ensures.seen
    (c.in-Err.ensures.quiet (λ is. cc)))
    c.begin.ensures.comes

pub returns-in-NotInitialised-clause-moments : goal.returns-in-NotInitialised-clause-moments
returns-in-NotInitialised-clause-moments g c =
    then_order g.met.D.Disk.laws (Init c.args.origin) c.args.disk.now c.open.new.disk c.begin.new.disk c.open.ensures.moments c.begin.ensures.moments

pub returns-in-NotInitialised-clause-keeps : goal.returns-in-NotInitialised-clause-keeps
returns-in-NotInitialised-clause-keeps g c = c.begin.ensures.keeps

pub returns-in-NotInitialised-clause-others : goal.returns-in-NotInitialised-clause-others
returns-in-NotInitialised-clause-others g c = λ is_modelled name other. c.begin.ensures.others is_modelled name other ∙ ap (λ (s : Image). s name)
    c.open.ensures.seen

pub returns-in-NotInitialised-clause-quiet : goal.returns-in-NotInitialised-clause-quiet
returns-in-NotInitialised-clause-quiet g c = λ other. c.begin.ensures.quiet other ∙ c.in-Err.ensures.quiet (λ is. cc)

pub returns-in-NotInitialised-clause-later : goal.returns-in-NotInitialised-clause-later
returns-in-NotInitialised-clause-later g c = omega (arith, c.open.ensures.later, c.begin.ensures.later)

pub returns-in_default-clause-comes : goal.returns-in_default-clause-comes
returns-in_default-clause-comes g c =
    let store : Store = store_of g.D.Disk.is_modelled g.D.Disk.seen g.D.Disk.faults c.args.disk.now c.open.new.disk in
    refused_inits c.args.origin store c.in-Err.fault c.refused.result c.in_default.not-NotInitialised c.refused.ensures
    (refuses store c.in-Err.fault c.refused.result c.refused.ensures c.open.ensures.seen c.in-Err.ensures.told (λ is. c.in-Err.ensures.cause (ap Err is)))

pub returns-in_default-clause-moments : goal.returns-in_default-clause-moments
returns-in_default-clause-moments g c = only_allowed g.met.D.Disk.laws (Init c.args.origin) c.args.disk.now c.open.new.disk c.open.ensures.moments

pub returns-in_default-clause-keeps : goal.returns-in_default-clause-keeps
returns-in_default-clause-keeps g c =
    refused_keeps (Init c.args.origin) (g.D.Disk.may_leave c.open.new.disk) (g.D.Disk.seen c.open.new.disk) c.in-Err.fault c.refused.result c.refused.ensures

pub returns-in_default-clause-others : goal.returns-in_default-clause-others
returns-in_default-clause-others g c = λ is_modelled name other. ap (λ (s : Image). s name) c.open.ensures.seen

pub returns-in_default-clause-quiet : goal.returns-in_default-clause-quiet
returns-in_default-clause-quiet g c = λ other. c.in-Err.ensures.quiet (λ is. other_fault c.in-Err.fault c.refused.result c.refused.ensures other (cc))
