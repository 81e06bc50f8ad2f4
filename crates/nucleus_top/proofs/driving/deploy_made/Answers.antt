use Rattle.std.proofs.Common.{refl, ap}
use Rattle.deploy_state.specs.States.{idle_device}
use Rattle.step_runner.specs.Entries.{Listed}
use Rattle.components.specs.Components.{Components}
use Rattle.histories.specs.TraceEvents.{records_of}
use Rattle.nucleus_top.specs.Drives.{IsMade, slots_start}
use Rattle.nucleus_top.proofs.Crashes.{kept_prefixes}
use Rattle.nucleus_top.proofs.Driven.{begun, made_takes, open_begun, slots_elsewhere}
use Rattle.nucleus_top.proofs.Images.{held_stands}
use Rattle.nucleus_top.proofs.Meeting.{brought_stay_met, deployed_brings, deployed_stay}
use Rattle.nucleus_top.proofs.Printed.{call_lasts}
use Rattle.nucleus_top.proofs.Proposals.{some_of}
use Rattle.nucleus_top.proofs.Whole.{held_whole}
use Rattle.nucleus_top.proofs.driving.deploy_made.Goals as goal

pub run_made_to_end-requires-clause-held : goal.run_made_to_end-requires-clause-held
run_made_to_end-requires-clause-held g c = c.requires.held

pub run_made_to_end-requires-clause-apart : goal.run_made_to_end-requires-clause-apart
run_made_to_end-requires-clause-apart g c = slots_elsewhere c.needed_files_stay.ensures.journals

pub run_made_to_end-requires-clause-empty : goal.run_made_to_end-requires-clause-empty
run_made_to_end-requires-clause-empty g c = ap (λ (w : Components). w.parts) c.new-supervisor.ensures

pub run_made_to_end-requires-clause-from_state : goal.run_made_to_end-requires-clause-from_state
run_made_to_end-requires-clause-from_state g c =
    let told = Listed g.R.Runner.list g.R.Runner.told g.R.Runner.asked c.args.runner.now in (
      begun (idle_device c.args.idle) told,
      open_begun (idle_device c.args.idle) c.new-supervisor.result told (g.R.Runner.living c.args.runner.now)
          c.new-supervisor.ensures c.requires.none c.requires.held.1,
      refl,
    )

pub returns-clause-driven : goal.returns-clause-driven
returns-clause-driven g c =
    let told = Listed g.R.Runner.list g.R.Runner.told g.R.Runner.asked c.args.runner.now in
    let d = idle_device c.args.idle in
    let state = begun d told in
    let run = c.run_made_to_end.ensures.call state (open_begun d c.new-supervisor.result told (g.R.Runner.living c.args.runner.now) c.new-supervisor.ensures
    c.requires.none c.requires.held.1) refl in
    let origin = some_of d.origin c.requires.held.0.origin in
    let content = g.L.Library.content c.run_made_to_end.new.library in
    let before = g.L.Library.faults c.args.library.now in
    let after = g.L.Library.faults c.run_made_to_end.new.library in
    let takes = made_takes d origin.0 content before after c.args.made run.0 (run.1 origin.0 origin.1) in
    record {
      state = state;
      serves = refl;
      idle = c.requires.held.1;
      origin = origin.0;
      origin_is = origin.1;
      taken = run.0;
      takes = takes;
      call = run.2;
      driven = record {
        device_is = refl;
        sound = c.requires.held.0.sound;
        history = record { start = refl; proper = run.2.0.trace.proper; run = run.2.0.trace.run };
        images = kept_prefixes g.met.D.Disk.laws (slots_elsewhere c.needed_files_stay.ensures.journals) c.args.disk.now c.run_made_to_end.new.disk
            (g.R.Runner.list c.args.runner.now) (g.R.Runner.list c.run_made_to_end.new.runner) (g.K.Sink.held c.args.sink.now)
            (g.K.Sink.held c.run_made_to_end.new.sink) state c.run_made_to_end.result
            (held_stands g.met.D.Disk.laws c.args.idle.log c.args.disk.now d c.requires.held.0) run.2.0;
        whole = held_whole g.met.D.Disk.laws c.args.disk.now c.run_made_to_end.new.disk d (records_of run.2.0.history)
            (held_stands g.met.D.Disk.laws c.args.idle.log c.args.disk.now d c.requires.held.0) run.3;
        met = brought_stay_met d (records_of run.2.0.history)
            (deployed_brings (IsMade c.args.made) d origin.0 content before after c.requires.held.0.sound (slots_start c.args.idle.log d)
            run.2.0.ending (records_of run.2.0.history) c.plans_are_met.ensures run.0 takes run.2.1);
        stays = deployed_stay (IsMade c.args.made) d origin.0 content before after c.requires.held.0.sound (slots_start c.args.idle.log d)
            run.2.0.ending (records_of run.2.0.history) c.plans_are_whole.ensures.taken c.requires.held.0.regular origin.1 run.0 takes run.2.1;
      };
      failed = run.4;
      disk_cause = run.5;
      library_cause = run.6;
      lasts = call_lasts g.D.Disk.may_leave g.D.Disk.moment g.D.Disk.left_since c.args.disk.now c.run_made_to_end.new.disk
          (g.R.Runner.list c.args.runner.now) (g.R.Runner.list c.run_made_to_end.new.runner) (g.K.Sink.held c.args.sink.now)
          (g.K.Sink.held c.run_made_to_end.new.sink) state c.run_made_to_end.result run.2.0;
      accepts = run.7;
    }

pub returns-clause-none : goal.returns-clause-none
returns-clause-none g c = c.run_made_to_end.ensures.none

pub returns-clause-others : goal.returns-clause-others
returns-clause-others g c = c.run_made_to_end.ensures.others

pub returns-clause-disk : goal.returns-clause-disk
returns-clause-disk g c = c.run_made_to_end.ensures.disk

pub returns-clause-edge : goal.returns-clause-edge
returns-clause-edge g c = c.run_made_to_end.ensures.edge

pub returns-clause-quiet_disk : goal.returns-clause-quiet_disk
returns-clause-quiet_disk g c = c.run_made_to_end.ensures.quiet_disk

pub returns-clause-quiet_sink : goal.returns-clause-quiet_sink
returns-clause-quiet_sink g c = c.run_made_to_end.ensures.quiet_sink

pub returns-clause-later : goal.returns-clause-later
returns-clause-later g c = c.run_made_to_end.ensures.later

pub returns-clause-library : goal.returns-clause-library
returns-clause-library g c = c.run_made_to_end.ensures.library

pub returns-clause-library_quiet : goal.returns-clause-library_quiet
returns-clause-library_quiet g c = c.run_made_to_end.ensures.library_quiet

pub returns-clause-library_later : goal.returns-clause-library_later
returns-clause-library_later g c = c.run_made_to_end.ensures.library_later

pub returns-clause-kept : goal.returns-clause-kept
returns-clause-kept g c = c.run_made_to_end.ensures.kept

pub returns-clause-swept : goal.returns-clause-swept
returns-clause-swept g c = c.run_made_to_end.ensures.swept
