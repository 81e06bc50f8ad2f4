use Rattle.std.proofs.Common.{◌≡◌, ◌∙◌, inl, inr, refl, ap, arith}
use Rattle.std.specs.Prelude.{Err}
use Rattle.nuc_base.specs.Faults.{Rose}
use Rattle.deploy_state.specs.States.{idle_device}
use Rattle.nucleus_top.specs.Answers.{Input, Printed, Shelf, Store, input_of, printed_of, shelf_of, store_of}
use Rattle.nucleus_top.specs.Drives.{slots_start}
use Rattle.nucleus_top.proofs.Driven.{idle_refusal, idle_refused, ran_on, stays, stays_on, tells, told_sweeps}
use Rattle.nucleus_top.proofs.Reading.{reads_none}
use Rattle.nucleus_top.proofs.driving.deploy.Goals as goal

-- ---- no deployment is pending

pub deploy_read-requires-clause-held : goal.deploy_read-requires-clause-held
deploy_read-requires-clause-held g c = c.in-Ok.ensures.held

pub deploy_read-requires-clause-none : goal.deploy_read-requires-clause-none
deploy_read-requires-clause-none g c = c.requires.none

pub returns-in-Ok-clause-ran : goal.returns-in-Ok-clause-ran
returns-in-Ok-clause-ran g c =
    let d = idle_device c.in-Ok.idle in
    let store : Store = store_of g.D.Disk.is_modelled g.D.Disk.seen g.D.Disk.faults c.args.disk.now c.deploy_read.new.disk in
    let input : Input = input_of g.S.Source.left g.S.Source.faults c.args.source.now c.deploy_read.new.source in
    let library : Shelf = shelf_of g.L.Library.content g.L.Library.faults c.args.library.now c.deploy_read.new.library in
    let printed : Printed = printed_of g.K.Sink.held g.K.Sink.faults c.args.sink.now c.deploy_read.new.sink in
    ran_on g.met.D.Disk.laws c.args.disk.now c.open_idle.new.disk c.deploy_read.new.disk c.open_idle.ensures.spared
    (g.R.Runner.list c.args.runner.now) (g.R.Runner.list c.deploy_read.new.runner) printed c.deploy_read.result
    g.D.Disk.faults store c.args.what.now input library d (slots_start c.in-Ok.idle.log d) (c.deploy_read.new.runner ≡ c.args.runner.now)
    c.open_idle.ensures.later c.in-Ok.ensures.opened c.in-Ok.ensures.held.1 c.in-Ok.ensures.start (λ told. (c.in-Ok.ensures.opened told).1)
    c.open_idle.ensures.images c.open_idle.ensures.whole (c.in-Ok.ensures.ends (λ is. cc)) c.deploy_read.ensures.ran

pub returns-in-Ok-clause-none : goal.returns-in-Ok-clause-none
returns-in-Ok-clause-none g c = c.deploy_read.ensures.none

pub returns-in-Ok-clause-others : goal.returns-in-Ok-clause-others
returns-in-Ok-clause-others g c = λ told name apart outside. c.deploy_read.ensures.others told name apart outside ∙ c.open_idle.ensures.others told name apart
    outside

pub returns-in-Ok-clause-disk : goal.returns-in-Ok-clause-disk
returns-in-Ok-clause-disk g c = λ is.
    let rose : Rose (g.D.Disk.faults c.args.disk.now) (g.D.Disk.faults c.deploy_read.new.disk) =
    omega (arith, c.deploy_read.ensures.disk is, c.open_idle.ensures.later) in rose

pub returns-in-Ok-clause-quiet_disk : goal.returns-in-Ok-clause-quiet_disk
returns-in-Ok-clause-quiet_disk g c = λ other more. c.deploy_read.ensures.quiet_disk other more ∙ c.in-Ok.ensures.quiet (λ is. cc)

pub returns-in-Ok-clause-quiet_sink : goal.returns-in-Ok-clause-quiet_sink
returns-in-Ok-clause-quiet_sink g c = c.deploy_read.ensures.quiet_sink

pub returns-in-Ok-clause-later : goal.returns-in-Ok-clause-later
returns-in-Ok-clause-later g c = (
  stays_on (g.D.Disk.faults c.args.disk.now) (g.D.Disk.faults c.open_idle.new.disk) (g.D.Disk.faults c.deploy_read.new.disk) c.open_idle.ensures.later
      c.deploy_read.ensures.later.0,
  c.deploy_read.ensures.later.1,
)

pub returns-in-Ok-clause-library : goal.returns-in-Ok-clause-library
returns-in-Ok-clause-library g c = c.deploy_read.ensures.library

pub returns-in-Ok-clause-library_quiet : goal.returns-in-Ok-clause-library_quiet
returns-in-Ok-clause-library_quiet g c = c.deploy_read.ensures.library_quiet

pub returns-in-Ok-clause-unasked : goal.returns-in-Ok-clause-unasked
returns-in-Ok-clause-unasked g c = c.deploy_read.ensures.unasked

pub returns-in-Ok-clause-edge : goal.returns-in-Ok-clause-edge
returns-in-Ok-clause-edge g c = c.deploy_read.ensures.edge

pub returns-in-Ok-clause-quiet_source : goal.returns-in-Ok-clause-quiet_source
returns-in-Ok-clause-quiet_source g c = c.deploy_read.ensures.quiet_source

-- ---- refused

pub returns-in-Err-clause-ran : goal.returns-in-Err-clause-ran
returns-in-Err-clause-ran g c =
    let store : Store = store_of g.D.Disk.is_modelled g.D.Disk.seen g.D.Disk.faults c.args.disk.now c.open_idle.new.disk in
    let input : Input = input_of g.S.Source.left g.S.Source.faults c.args.source.now c.args.source.now in
    inl (
      record {
        answer = c.in-Err.answer;
        why = idle_refused store input c.in-Err.answer refl c.in-Err.ensures.answers;
        is_printed = c.tell-status.ensures.is_printed;
        spared = c.open_idle.ensures.spared;
        images = c.open_idle.ensures.images;
        whole = c.open_idle.ensures.whole;
        ends = inr (λ other. c.in-Err.ensures.ends (λ is. other (cc)));
        reads = c.open_idle.ensures.reads;
      },
      refl {a = c.args.runner.now},
    )

pub returns-in-Err-clause-others : goal.returns-in-Err-clause-others
returns-in-Err-clause-others g c = c.open_idle.ensures.others

pub returns-in-Err-clause-disk : goal.returns-in-Err-clause-disk
returns-in-Err-clause-disk g c = λ is.
    let printed : Printed = printed_of g.K.Sink.held g.K.Sink.faults c.args.sink.now c.tell-status.new.sink in
    c.in-Err.ensures.disk (ap Err ((tells printed c.tell-status.result c.in-Err.answer
    (idle_refusal (store_of g.D.Disk.is_modelled g.D.Disk.seen g.D.Disk.faults c.args.disk.now c.open_idle.new.disk) c.in-Err.answer
    c.in-Err.ensures.answers) c.tell-status.ensures.is_printed).disk is))

pub returns-in-Err-clause-quiet_disk : goal.returns-in-Err-clause-quiet_disk
returns-in-Err-clause-quiet_disk g c = λ other more.
    let printed : Printed = printed_of g.K.Sink.held g.K.Sink.faults c.args.sink.now c.tell-status.new.sink in
    c.in-Err.ensures.quiet (λ is. (tells printed c.tell-status.result c.in-Err.answer
    (idle_refusal (store_of g.D.Disk.is_modelled g.D.Disk.seen g.D.Disk.faults c.args.disk.now c.open_idle.new.disk) c.in-Err.answer
    c.in-Err.ensures.answers) c.tell-status.ensures.is_printed).quiet other more (cc))

pub returns-in-Err-clause-quiet_sink : goal.returns-in-Err-clause-quiet_sink
returns-in-Err-clause-quiet_sink g c =
    let printed : Printed = printed_of g.K.Sink.held g.K.Sink.faults c.args.sink.now c.tell-status.new.sink in
    (tells printed c.tell-status.result c.in-Err.answer
    (idle_refusal (store_of g.D.Disk.is_modelled g.D.Disk.seen g.D.Disk.faults c.args.disk.now c.open_idle.new.disk) c.in-Err.answer
    c.in-Err.ensures.answers) c.tell-status.ensures.is_printed).quiet_sink

pub returns-in-Err-clause-library : goal.returns-in-Err-clause-library
returns-in-Err-clause-library g c = λ is.
    let printed : Printed = printed_of g.K.Sink.held g.K.Sink.faults c.args.sink.now c.tell-status.new.sink in
    absurd ((tells printed c.tell-status.result c.in-Err.answer
    (idle_refusal (store_of g.D.Disk.is_modelled g.D.Disk.seen g.D.Disk.faults c.args.disk.now c.open_idle.new.disk) c.in-Err.answer
    c.in-Err.ensures.answers) c.tell-status.ensures.is_printed).library is)

pub returns-in-Err-clause-edge : goal.returns-in-Err-clause-edge
returns-in-Err-clause-edge g c = λ is.
    let printed : Printed = printed_of g.K.Sink.held g.K.Sink.faults c.args.sink.now c.tell-status.new.sink in
    inr ((tells printed c.tell-status.result c.in-Err.answer
    (idle_refusal (store_of g.D.Disk.is_modelled g.D.Disk.seen g.D.Disk.faults c.args.disk.now c.open_idle.new.disk) c.in-Err.answer
    c.in-Err.ensures.answers) c.tell-status.ensures.is_printed).edge is)

pub returns-in-Err-clause-later : goal.returns-in-Err-clause-later
returns-in-Err-clause-later g c = (
  stays (g.D.Disk.faults c.args.disk.now) (g.D.Disk.faults c.open_idle.new.disk) c.open_idle.ensures.later,
  stays (g.K.Sink.faults c.args.sink.now) (g.K.Sink.faults c.tell-status.new.sink) c.tell-status.ensures.later,
)

-- ---- no stray file is left behind a close

pub returns-in-Ok-clause-swept : goal.returns-in-Ok-clause-swept
returns-in-Ok-clause-swept g c = c.deploy_read.ensures.swept c.in-Ok.ensures.clean

pub returns-in-Err-clause-swept : goal.returns-in-Err-clause-swept
returns-in-Err-clause-swept g c =
    let printed : Printed = printed_of g.K.Sink.held g.K.Sink.faults c.args.sink.now c.tell-status.new.sink in
    told_sweeps g.D.Disk.is_modelled printed c.tell-status.result (g.D.Disk.seen c.open_idle.new.disk) c.in-Err.answer
    (idle_refusal (store_of g.D.Disk.is_modelled g.D.Disk.seen g.D.Disk.faults c.args.disk.now c.open_idle.new.disk) c.in-Err.answer c.in-Err.ensures.answers)
    c.tell-status.ensures.is_printed

-- ---- what is read of the source

pub returns-in-Err-clause-read : goal.returns-in-Err-clause-read
returns-in-Err-clause-read g c = reads_none 524289 (g.S.Source.left c.args.source.now)
