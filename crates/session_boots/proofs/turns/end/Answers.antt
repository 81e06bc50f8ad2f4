use Rattle.std.proofs.Common.{◌≡◌, ◌∙◌, List, ℕ, [], ◌∷◌, refl, sym, ap, subst}
use Rattle.std.specs.Io.KnownBytes.{Appends}
use Rattle.edges.specs.Pieces.{AppendsPrefix}
use Rattle.deploy_state.proofs.Steps.{in_hand_stands}
use Rattle.deploy_state.specs.Fields.{next_name}
use Rattle.deploy_state.specs.States.{device_of}
use Rattle.device.specs.Devices.{Device}
use Rattle.device.specs.Lawful.{applied}
use Rattle.device.specs.Standing.{StandsFor}
use Rattle.records.specs.Stored as stored
use Rattle.histories.specs.TraceEvents.{Recorded}
use Rattle.histories.specs.Phases.{duty_of}
use Rattle.session_boots.proofs.Duties.{allowed_ended, next_in, mark_ended, may_end, named, still_named}
use Rattle.session_boots.proofs.Records.{bare_ended, between_ended, doubt_at, end_went, line_ended, over_ended}
use Rattle.session_boots.proofs.Told.{last_unprinted, stops_last}
use Rattle.session_boots.proofs.turns.end.Goals as goal

pub ended-requires-clause-may : goal.ended-requires-clause-may
ended-requires-clause-may g c =
    let d = device_of (g.S.BootStage.hand c.args.state) in
    let n = named (duty_of d).next_bootstrap c.requires.next in
    may_end d n.0 c.args.exit (next_in d n.0 n.1) c.requires.begun

pub returns-in-Ok-tell_end-clause-trace : goal.returns-in-Ok-tell_end-clause-trace
returns-in-Ok-tell_end-clause-trace g c = λ p world told living h.
    let d = device_of (g.S.BootStage.hand c.args.state) in
    let e = device_of (g.S.BootStage.hand c.in-Ok.next) in
    let x = c.args.exit in
    let n = named (duty_of d).next_bootstrap c.requires.next in
    let t = next_in d n.0 n.1 in
    let r = stored.BootEnded n.0 x in
    let mark = mark_ended d n.0 x t in
    let same = c.in-Ok.ensures.taken r mark in (
      Recorded r ∷ [],
      end_went g.J.Journal.entries g.J.Journal.files g.met.D.Disk.laws c.args.disk.now c.ended.new.disk told.list p d x world told living n.0 h
          (allowed_ended d n.0 x t c.requires.begun) (c.ended.ensures.moments r mark),
      subst (λ (l : List ℕ). Appends (g.K.Sink.held c.args.sink.now) (g.K.Sink.held c.tell_end.new.sink) l)
          (line_ended p d e n.0 x h.stands.device_is same)
          (c.in-Ok-tell_end.ensures.line n.0 (λ fails. ap next_name same ∙ still_named d n.0 x t fails)),
      (between_ended p d e x world told living n.0 h same, over_ended p d e x n.0 h.stands.device_is same, ([], n.0, refl)),
      tt,
    )

pub returns-in-Ok-tell_end-clause-ends : goal.returns-in-Ok-tell_end-clause-ends
returns-in-Ok-tell_end-clause-ends g c =
    let d = device_of (g.S.BootStage.hand c.args.state) in
    let n = named (duty_of d).next_bootstrap c.requires.next in
    let t = next_in d n.0 n.1 in
    (n.0, n.1, c.in-Ok.ensures.taken (stored.BootEnded n.0 c.args.exit) (mark_ended d n.0 c.args.exit t))

pub returns-in-Err-tell_end-clause-trace : goal.returns-in-Err-tell_end-clause-trace
returns-in-Err-tell_end-clause-trace g c = λ p world told living h.
    let d = device_of (g.S.BootStage.hand c.args.state) in
    let e = device_of (g.S.BootStage.hand c.in-Ok.next) in
    let x = c.args.exit in
    let n = named (duty_of d).next_bootstrap c.requires.next in
    let t = next_in d n.0 n.1 in
    let r = stored.BootEnded n.0 x in
    let mark = mark_ended d n.0 x t in
    let same = c.in-Ok.ensures.taken r mark in
    let back : e ≡ applied p.device r = same ∙ ap (λ (y : Device). applied y r) (sym h.stands.device_is) in (
      Recorded r ∷ [],
      end_went g.J.Journal.entries g.J.Journal.files g.met.D.Disk.laws c.args.disk.now c.ended.new.disk told.list p d x world told living n.0 h
          (allowed_ended d n.0 x t c.requires.begun) (c.ended.ensures.moments r mark),
      subst (λ (l : List ℕ). AppendsPrefix (g.K.Sink.held c.args.sink.now) (g.K.Sink.held c.tell_end.new.sink) l)
          (line_ended p d e n.0 x h.stands.device_is same)
          (c.in-Err-tell_end.ensures.line n.0 (λ fails. ap next_name same ∙ still_named d n.0 x t fails)),
      (
        stops_last r,
        refl,
        λ i left. subst (λ (y : Device). StandsFor g.J.Journal.entries i y) back
            (in_hand_stands g.met.D.Disk.laws g.met.J.Journal.laws _ c.ended.new.disk e c.in-Ok.ensures.held.0.0 i left),
      ),
      bare_ended p d x world told living n.0 h,
    )

pub returns-in-Err-clause-trace : goal.returns-in-Err-clause-trace
returns-in-Err-clause-trace g c = λ p world told living h.
    let d = device_of (g.S.BootStage.hand c.args.state) in
    let x = c.args.exit in
    let n = named (duty_of d).next_bootstrap c.requires.next in
    let t = next_in d n.0 n.1 in
    let r = stored.BootEnded n.0 x in
    let allowed = allowed_ended d n.0 x t c.requires.begun in
    let notes = c.ended.ensures.moments r (mark_ended d n.0 x t) in (
      Recorded r ∷ [],
      end_went g.J.Journal.entries g.J.Journal.files g.met.D.Disk.laws c.args.disk.now c.ended.new.disk told.list p d x world told living n.0 h allowed notes,
      last_unprinted (g.K.Sink.held c.args.sink.now) p.device r,
      doubt_at g.J.Journal.entries g.J.Journal.files g.met.D.Disk.laws c.args.disk.now c.ended.new.disk p d r h.stands.device_is allowed notes,
      bare_ended p d x world told living n.0 h,
    )
