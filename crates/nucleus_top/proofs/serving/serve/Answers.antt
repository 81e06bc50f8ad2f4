use Rattle.std.proofs.Common.{◌∙◌, ◌≡◌, inl, inr, refl, sym, ap, subst, arith}
use Rattle.std.specs.Prelude.{Err, true, ℕ}
use Rattle.nuc_base.specs.Faults.{Rose}
use Rattle.deploy_state.specs.States.{loaded_device}
use Rattle.disk_model.specs.Moments.{weaker}
use Rattle.step_runner.specs.Entries.{Listed}
use Rattle.components.specs.Components.{Components}
use Rattle.histories.specs.TraceEvents.{records_of}
use Rattle.session_serving.specs.Documents.{IsDeployedThere}
use Rattle.session_serving.specs.Parts.{outside}
use Rattle.session_serving.specs.Served.{IsWholeCall}
use Rattle.nucleus_top.specs.Answers.{Printed, printed_of, store_of}
use Rattle.nucleus_top.specs.Crashes.{AllowedOrPrefix}
use Rattle.nucleus_top.specs.Serving.{on_disk, slots_ghosts}
use Rattle.nucleus_top.proofs.Crashes.{loaded_origin, loaded_sound, loaded_stands, same_prefixes}
use Rattle.nucleus_top.proofs.Driven.{begun_as, driven_on, slots_elsewhere, stays, stays_on, tells, withheld_first}
use Rattle.nucleus_top.proofs.ServeEnds.{serving_begins, serving_meets, serving_most, serving_wholes, slots_own}
use Rattle.nucleus_top.proofs.ServeOrder.{ends_in_order, told_in_order}
use Rattle.nucleus_top.proofs.Whole.{held_whole}
use Rattle.nucleus_top.proofs.serving.serve.Goals as goal

-- ---- the device is there

pub serve-requires-clause-held : goal.serve-requires-clause-held
serve-requires-clause-held g c = c.in-Ok.ensures.held

pub serve-requires-clause-apart : goal.serve-requires-clause-apart
serve-requires-clause-apart g c = slots_elsewhere c.needed_files_stay.ensures.journals

pub serve-requires-clause-own : goal.serve-requires-clause-own
serve-requires-clause-own g c = slots_own

pub serve-requires-clause-empty : goal.serve-requires-clause-empty
serve-requires-clause-empty g c = ap (λ (w : Components). w.parts) c.new-supervisor.ensures

pub serve-requires-clause-from_state : goal.serve-requires-clause-from_state
serve-requires-clause-from_state g c =
    let told = Listed g.R.Runner.list g.R.Runner.told g.R.Runner.asked c.args.runner.now in
    let d = loaded_device c.in-Ok.state in (
      begun_as true c.args.turns d told,
      serving_begins c.args.turns d c.new-supervisor.result told (g.R.Runner.living c.args.runner.now) c.new-supervisor.ensures c.requires.none,
    )

pub returns-in-Ok-clause-ran : goal.returns-in-Ok-clause-ran
returns-in-Ok-clause-ran g c =
    let told = Listed g.R.Runner.list g.R.Runner.told g.R.Runner.asked c.args.runner.now in
    let d = loaded_device c.in-Ok.state in
    let state = begun_as true c.args.turns d told in
    let mid = outside g.D.Disk g.K.Sink g.R.Runner g.L.Library g.I.Inbox c.open_swept.new.disk c.args.sink.now c.args.runner.now c.args.library.now
    c.args.inbox.now in
    let old = outside g.D.Disk g.K.Sink g.R.Runner g.L.Library g.I.Inbox c.args.disk.now c.args.sink.now c.args.runner.now c.args.library.now
    c.args.inbox.now in
    let new = outside g.D.Disk g.K.Sink g.R.Runner g.L.Library g.I.Inbox c.serve.new.disk c.serve.new.sink c.serve.new.runner c.serve.new.library
    c.serve.new.inbox in
    let call = c.serve.ensures.served state (serving_begins c.args.turns d c.new-supervisor.result told (g.R.Runner.living c.args.runner.now)
    c.new-supervisor.ensures c.requires.none) in
    let whole : IsWholeCall g.D.Disk slots_ghosts IsDeployedThere c.args.turns mid new state call.0 c.serve.result = call.1 in
    let sound = loaded_sound g.met.D.Disk.laws c.in-Ok.state c.open_swept.new.disk c.in-Ok.ensures.held in
    let some = loaded_origin g.met.D.Disk.laws c.in-Ok.state c.open_swept.new.disk c.in-Ok.ensures.held in
    let most = serving_most g.D.Disk mid new c.args.turns d told call.0 c.serve.result whole sound some in
    let start = on_disk c.open_swept.new.disk old in
    let served : IsWholeCall g.D.Disk slots_ghosts IsDeployedThere c.args.turns start new state call.0 c.serve.result =
    subst (λ (n : ℕ). IsWholeCall g.D.Disk slots_ghosts IsDeployedThere c.args.turns (record mid { faults = n }) new state call.0
    c.serve.result) (c.in-Ok.ensures.quiet (λ is. cc)) whole in
    let lasting = told_in_order g.D.Disk c.args.turns start new state call.0 c.serve.result served.parts most in
    let stands = loaded_stands g.met.D.Disk.laws c.in-Ok.state c.open_swept.new.disk c.in-Ok.ensures.held in
    inr (
      d,
      c.in-Ok.ensures.opened,
      record {
        state = state;
        serves = refl;
        turns_are = refl;
        history = call.0;
        driven = driven_on g.met.D.Disk.laws c.args.disk.now c.open_swept.new.disk c.serve.new.disk c.open_swept.ensures.spared
            (g.R.Runner.list c.args.runner.now) (g.R.Runner.list c.serve.new.runner)
            (printed_of g.K.Sink.held g.K.Sink.faults c.args.sink.now c.serve.new.sink) c.serve.result g.D.Disk.faults c.open_swept.ensures.later d
            (same_prefixes g.met.D.Disk.laws c.args.disk.now c.open_swept.new.disk d (λ is_modelled. (c.in-Ok.ensures.opened is_modelled).1)
            c.open_swept.ensures.images)
            (λ is_modelled. (c.in-Ok.ensures.opened is_modelled).1) c.open_swept.ensures.whole state call.0
            (record {
              device_is = refl;
              sound = sound;
              history = record { start = refl; proper = whole.goes.proper; run = whole.goes.run };
              images = weaker g.met.D.Disk.laws c.open_swept.new.disk c.serve.new.disk _
                  (AllowedOrPrefix (g.D.Disk.may_leave c.open_swept.new.disk) d (records_of call.0)) (λ image prefix. inr prefix) whole.goes.images;
              whole = held_whole g.met.D.Disk.laws c.open_swept.new.disk c.serve.new.disk d (records_of call.0) stands whole.goes.whole;
              met = serving_meets g.D.Disk mid new c.args.turns d told call.0 c.serve.result whole sound some c.plans_are_met.ensures;
              stays = serving_wholes g.D.Disk mid new c.args.turns d told call.0 c.serve.result whole sound some c.tree_laws.ensures.regular
                  c.plans_are_whole.ensures.taken;
            });
        from = c.open_swept.new.disk;
        before = c.open_swept.ensures.spared;
        swept = c.in-Ok.ensures.clean;
        most = most;
        call = served;
        in_order = ends_in_order g.D.Disk c.args.turns start new state call.0 c.serve.result served.parts;
        printed_records = lasting.0;
        printed_are = lasting.1;
        lasts = lasting.2;
      },
    )

pub returns-in-Ok-clause-none : goal.returns-in-Ok-clause-none
returns-in-Ok-clause-none g c = c.serve.ensures.none

pub returns-in-Ok-clause-caused : goal.returns-in-Ok-clause-caused
returns-in-Ok-clause-caused g c =
    let r = c.serve.ensures.caused in
    record {
      disk = λ is. let rose : Rose (g.D.Disk.faults c.args.disk.now) (g.D.Disk.faults c.serve.new.disk) =
          omega (arith, r.disk is, c.open_swept.ensures.later) in rose;
      edge = r.edge;
      quiet_edges = r.quiet_edges;
      later = (
        stays_on (g.D.Disk.faults c.args.disk.now) (g.D.Disk.faults c.open_swept.new.disk) (g.D.Disk.faults c.serve.new.disk) c.open_swept.ensures.later
            r.later.0,
        r.later.1,
        r.later.2,
      );
      library_later = r.library_later;
      others = λ told name apart outside. r.others told name apart outside ∙ c.open_swept.ensures.others told name apart outside;
    }

-- ---- the journal gives no device

pub returns-in-Err-clause-ran : goal.returns-in-Err-clause-ran
returns-in-Err-clause-ran g c =
    inl (
      record {
        answer = c.in-Err.answer;
        why = c.in-Err.ensures.answers;
        is_printed = c.tell-status.ensures.is_printed;
        spared = c.open_swept.ensures.spared;
        images = c.open_swept.ensures.images;
        whole = c.open_swept.ensures.whole;
        ends = inr (λ other. c.in-Err.ensures.ends (λ is. other (cc)));
        reads = c.open_swept.ensures.reads;
      },
      refl {a = c.args.runner.now},
      refl {a = c.args.library.now},
      refl {a = c.args.inbox.now},
      (λ other more.
          let printed : Printed = printed_of g.K.Sink.held g.K.Sink.faults c.args.sink.now c.tell-status.new.sink in
          let tell = tells printed c.tell-status.result c.in-Err.answer
          (inl (withheld_first (store_of g.D.Disk.is_modelled g.D.Disk.seen g.D.Disk.faults c.args.disk.now c.open_swept.new.disk) c.in-Err.answer
          c.in-Err.ensures.answers)) c.tell-status.ensures.is_printed in
          c.in-Err.ensures.quiet (λ is. tell.quiet other more (cc))),
    )

pub returns-in-Err-clause-caused : goal.returns-in-Err-clause-caused
returns-in-Err-clause-caused g c =
    let printed : Printed = printed_of g.K.Sink.held g.K.Sink.faults c.args.sink.now c.tell-status.new.sink in
    let tell = tells printed c.tell-status.result c.in-Err.answer
    (inl (withheld_first (store_of g.D.Disk.is_modelled g.D.Disk.seen g.D.Disk.faults c.args.disk.now c.open_swept.new.disk) c.in-Err.answer
    c.in-Err.ensures.answers)) c.tell-status.ensures.is_printed in
    record {
      disk = λ is. c.in-Err.ensures.disk (ap Err (tell.disk is));
      edge = λ is. inl (tell.edge is);
      quiet_edges = λ other. (tell.quiet_sink other, refl);
      later = (
        stays (g.D.Disk.faults c.args.disk.now) (g.D.Disk.faults c.open_swept.new.disk) c.open_swept.ensures.later,
        stays (g.K.Sink.faults c.args.sink.now) (g.K.Sink.faults c.tell-status.new.sink) c.tell-status.ensures.later,
        stays (g.I.Inbox.faults c.args.inbox.now) (g.I.Inbox.faults c.args.inbox.now) (omega arith),
      );
      library_later = omega arith;
      others = c.open_swept.ensures.others;
    }
