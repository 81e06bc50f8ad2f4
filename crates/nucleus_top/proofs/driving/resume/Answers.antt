use Rattle.std.proofs.Common.{◌∙◌, inl, inr, refl, ap, arith}
use Rattle.std.specs.Prelude.{Err}
use Rattle.nuc_base.specs.Faults.{Rose}
use Rattle.deploy_state.specs.States.{loaded_device}
use Rattle.step_runner.specs.Entries.{Listed}
use Rattle.components.specs.Components.{Components}
use Rattle.histories.specs.TraceEvents.{records_of}
use Rattle.histories.specs.States.{state_after}
use Rattle.nucleus_top.specs.Answers.{Printed, printed_of, store_of}
use Rattle.nucleus_top.proofs.Crashes.{kept_prefixes, loaded_sound, loaded_stands, same_prefixes}
use Rattle.nucleus_top.proofs.Driven.{begun, stage_begun, resumed_on, slots_elsewhere, stays, stays_on, tells, told_sweeps, withheld_first}
use Rattle.nucleus_top.proofs.Meeting.{brought_stay_met, resumed_brings, resumed_stay}
use Rattle.nucleus_top.proofs.Whole.{held_whole}
use Rattle.nucleus_top.proofs.driving.resume.Goals as goal

-- ---- the device is there

pub resume_to_end-requires-clause-held : goal.resume_to_end-requires-clause-held
resume_to_end-requires-clause-held g c = c.in-Ok.ensures.held

pub resume_to_end-requires-clause-apart : goal.resume_to_end-requires-clause-apart
resume_to_end-requires-clause-apart g c = slots_elsewhere c.needed_files_stay.ensures.journals

pub resume_to_end-requires-clause-empty : goal.resume_to_end-requires-clause-empty
resume_to_end-requires-clause-empty g c = ap (λ (w : Components). w.parts) c.new-supervisor.ensures

pub resume_to_end-requires-clause-from_state : goal.resume_to_end-requires-clause-from_state
resume_to_end-requires-clause-from_state g c =
    let told = Listed g.R.Runner.list g.R.Runner.told g.R.Runner.asked c.args.runner.now in
    let d = loaded_device c.in-Ok.state in
    (begun d told, stage_begun d c.new-supervisor.result told (g.R.Runner.living c.args.runner.now) c.new-supervisor.ensures c.requires.none, refl)

pub returns-in-Ok-clause-ran : goal.returns-in-Ok-clause-ran
returns-in-Ok-clause-ran g c =
    let told = Listed g.R.Runner.list g.R.Runner.told g.R.Runner.asked c.args.runner.now in
    let d = loaded_device c.in-Ok.state in
    let printed : Printed = printed_of g.K.Sink.held g.K.Sink.faults c.args.sink.now c.resume_to_end.new.sink in
    let call = c.resume_to_end.ensures.call (begun d told) (stage_begun d c.new-supervisor.result told (g.R.Runner.living c.args.runner.now)
    c.new-supervisor.ensures
    c.requires.none) refl refl in
    inr (
      d,
      c.in-Ok.ensures.opened,
      resumed_on g.met.D.Disk.laws c.args.disk.now c.open_swept.new.disk c.resume_to_end.new.disk c.open_swept.ensures.spared
          (g.R.Runner.list c.args.runner.now) (g.R.Runner.list c.resume_to_end.new.runner) printed c.resume_to_end.result g.D.Disk.faults
          c.open_swept.ensures.later d
          (same_prefixes g.met.D.Disk.laws c.args.disk.now c.open_swept.new.disk d (λ is_modelled. (c.in-Ok.ensures.opened is_modelled).1)
          c.open_swept.ensures.images)
          (λ is_modelled. (c.in-Ok.ensures.opened is_modelled).1) c.open_swept.ensures.whole
          (record {
            state = begun d told;
            serves = refl;
            call = call.0;
            resumes = call.1;
            driven = record {
              device_is = refl;
              sound = loaded_sound g.met.D.Disk.laws c.in-Ok.state c.open_swept.new.disk c.in-Ok.ensures.held;
              history = record { start = refl; proper = call.0.trace.proper; run = call.0.trace.run };
              images = kept_prefixes g.met.D.Disk.laws (slots_elsewhere c.needed_files_stay.ensures.journals) c.open_swept.new.disk c.resume_to_end.new.disk
                  (g.R.Runner.list c.args.runner.now) (g.R.Runner.list c.resume_to_end.new.runner) (g.K.Sink.held c.args.sink.now)
                  (g.K.Sink.held c.resume_to_end.new.sink)
                  (begun d told) c.resume_to_end.result
                  (loaded_stands g.met.D.Disk.laws c.in-Ok.state c.open_swept.new.disk c.in-Ok.ensures.held) call.0;
              whole = held_whole g.met.D.Disk.laws c.open_swept.new.disk c.resume_to_end.new.disk d (records_of call.0.history)
                  (loaded_stands g.met.D.Disk.laws c.in-Ok.state c.open_swept.new.disk c.in-Ok.ensures.held) call.2;
              met = brought_stay_met d (records_of call.0.history)
                  (resumed_brings d d.pending call.0.ending call.0.history (state_after (begun d told) call.0.history) call.1 call.0.ends call.0.once);
              stays = resumed_stay d d.pending call.0.ending call.0.history (state_after (begun d told) call.0.history) call.1 call.0.ends call.0.once;
            };
            failed = call.3;
          }),
    )

pub returns-in-Ok-clause-none : goal.returns-in-Ok-clause-none
returns-in-Ok-clause-none g c = c.resume_to_end.ensures.none

pub returns-in-Ok-clause-others : goal.returns-in-Ok-clause-others
returns-in-Ok-clause-others g c = λ told name apart outside. c.resume_to_end.ensures.others told name apart outside ∙
    c.open_swept.ensures.others told name apart
    outside

pub returns-in-Ok-clause-disk : goal.returns-in-Ok-clause-disk
returns-in-Ok-clause-disk g c = λ is.
    let rose : Rose (g.D.Disk.faults c.args.disk.now) (g.D.Disk.faults c.resume_to_end.new.disk) =
    omega (arith, c.resume_to_end.ensures.disk is, c.open_swept.ensures.later) in rose

pub returns-in-Ok-clause-edge : goal.returns-in-Ok-clause-edge
returns-in-Ok-clause-edge g c = c.resume_to_end.ensures.edge

pub returns-in-Ok-clause-own : goal.returns-in-Ok-clause-own
returns-in-Ok-clause-own g c = c.resume_to_end.ensures.own

pub returns-in-Ok-clause-quiet_disk : goal.returns-in-Ok-clause-quiet_disk
returns-in-Ok-clause-quiet_disk g c = λ other more. c.resume_to_end.ensures.quiet_disk other more ∙ c.in-Ok.ensures.quiet (λ is. cc)

pub returns-in-Ok-clause-quiet_sink : goal.returns-in-Ok-clause-quiet_sink
returns-in-Ok-clause-quiet_sink g c = c.resume_to_end.ensures.quiet_sink

pub returns-in-Ok-clause-later : goal.returns-in-Ok-clause-later
returns-in-Ok-clause-later g c = (
  stays_on (g.D.Disk.faults c.args.disk.now) (g.D.Disk.faults c.open_swept.new.disk) (g.D.Disk.faults c.resume_to_end.new.disk) c.open_swept.ensures.later
      c.resume_to_end.ensures.later.0,
  c.resume_to_end.ensures.later.1,
)

-- ---- the journal gives no device

pub returns-in-Err-clause-ran : goal.returns-in-Err-clause-ran
returns-in-Err-clause-ran g c =
    inl (
      record {
        answer = c.in-Err.answer;
        why = c.in-Err.ensures.answers;
        is_printed = c.tell-status.ensures.is_printed;
        spared = c.open_swept.ensures.spared;
        images = c.open_swept.ensures.images;
        whole = c.open_swept.ensures.whole;
        ends = inr (λ other. c.in-Err.ensures.ends (λ is. other (cc)));
        reads = c.open_swept.ensures.reads;
      },
      refl {a = c.args.runner.now},
    )

pub returns-in-Err-clause-others : goal.returns-in-Err-clause-others
returns-in-Err-clause-others g c = c.open_swept.ensures.others

pub returns-in-Err-clause-disk : goal.returns-in-Err-clause-disk
returns-in-Err-clause-disk g c = λ is.
    let printed : Printed = printed_of g.K.Sink.held g.K.Sink.faults c.args.sink.now c.tell-status.new.sink in
    c.in-Err.ensures.disk (ap Err ((tells printed c.tell-status.result c.in-Err.answer
    (inl (withheld_first (store_of g.D.Disk.is_modelled g.D.Disk.seen g.D.Disk.faults c.args.disk.now c.open_swept.new.disk) c.in-Err.answer
    c.in-Err.ensures.answers)) c.tell-status.ensures.is_printed).disk is))

pub returns-in-Err-clause-edge : goal.returns-in-Err-clause-edge
returns-in-Err-clause-edge g c =
    let printed : Printed = printed_of g.K.Sink.held g.K.Sink.faults c.args.sink.now c.tell-status.new.sink in
    (tells printed c.tell-status.result c.in-Err.answer
    (inl (withheld_first (store_of g.D.Disk.is_modelled g.D.Disk.seen g.D.Disk.faults c.args.disk.now c.open_swept.new.disk) c.in-Err.answer
    c.in-Err.ensures.answers)) c.tell-status.ensures.is_printed).edge

pub returns-in-Err-clause-quiet_disk : goal.returns-in-Err-clause-quiet_disk
returns-in-Err-clause-quiet_disk g c = λ other more.
    let printed : Printed = printed_of g.K.Sink.held g.K.Sink.faults c.args.sink.now c.tell-status.new.sink in
    c.in-Err.ensures.quiet (λ is. (tells printed c.tell-status.result c.in-Err.answer
    (inl (withheld_first (store_of g.D.Disk.is_modelled g.D.Disk.seen g.D.Disk.faults c.args.disk.now c.open_swept.new.disk) c.in-Err.answer
    c.in-Err.ensures.answers)) c.tell-status.ensures.is_printed).quiet other more (cc))

pub returns-in-Err-clause-quiet_sink : goal.returns-in-Err-clause-quiet_sink
returns-in-Err-clause-quiet_sink g c =
    let printed : Printed = printed_of g.K.Sink.held g.K.Sink.faults c.args.sink.now c.tell-status.new.sink in
    (tells printed c.tell-status.result c.in-Err.answer
    (inl (withheld_first (store_of g.D.Disk.is_modelled g.D.Disk.seen g.D.Disk.faults c.args.disk.now c.open_swept.new.disk) c.in-Err.answer
    c.in-Err.ensures.answers)) c.tell-status.ensures.is_printed).quiet_sink

pub returns-in-Err-clause-own : goal.returns-in-Err-clause-own
returns-in-Err-clause-own g c =
    let printed : Printed = printed_of g.K.Sink.held g.K.Sink.faults c.args.sink.now c.tell-status.new.sink in
    (tells printed c.tell-status.result c.in-Err.answer
    (inl (withheld_first (store_of g.D.Disk.is_modelled g.D.Disk.seen g.D.Disk.faults c.args.disk.now c.open_swept.new.disk) c.in-Err.answer
    c.in-Err.ensures.answers)) c.tell-status.ensures.is_printed).library

pub returns-in-Err-clause-later : goal.returns-in-Err-clause-later
returns-in-Err-clause-later g c = (
  stays (g.D.Disk.faults c.args.disk.now) (g.D.Disk.faults c.open_swept.new.disk) c.open_swept.ensures.later,
  stays (g.K.Sink.faults c.args.sink.now) (g.K.Sink.faults c.tell-status.new.sink) c.tell-status.ensures.later,
)

-- ---- no stray file is left behind a close

pub returns-in-Ok-clause-swept : goal.returns-in-Ok-clause-swept
returns-in-Ok-clause-swept g c = c.resume_to_end.ensures.swept c.in-Ok.ensures.clean

pub returns-in-Err-clause-swept : goal.returns-in-Err-clause-swept
returns-in-Err-clause-swept g c =
    let printed : Printed = printed_of g.K.Sink.held g.K.Sink.faults c.args.sink.now c.tell-status.new.sink in
    told_sweeps g.D.Disk.is_modelled printed c.tell-status.result (g.D.Disk.seen c.open_swept.new.disk) c.in-Err.answer
    (inl (withheld_first (store_of g.D.Disk.is_modelled g.D.Disk.seen g.D.Disk.faults c.args.disk.now c.open_swept.new.disk) c.in-Err.answer
    c.in-Err.ensures.answers)) c.tell-status.ensures.is_printed
