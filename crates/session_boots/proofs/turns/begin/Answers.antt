use Rattle.std.proofs.Common.{ap}
use Rattle.deploy_state.proofs.Steps.{in_hand_stands}
use Rattle.deploy_state.specs.States.{device_of}
use Rattle.records.specs.Stored as stored
use Rattle.session_boots.proofs.Duties.{next_in, mark_begun, next_told}
use Rattle.session_boots.proofs.Records.{begun_doubt, begun_went}
use Rattle.session_boots.proofs.turns.begin.Goals as goal

pub returns-in-Ok-clause-trace : goal.returns-in-Ok-clause-trace
returns-in-Ok-clause-trace g c = λ p world told living at_stage.
    let d = device_of (g.S.BootStage.hand c.args.state) in
    let n = next_told d c.requires.may in
    let t = next_in d n.0 n.1 in
    let mark = mark_begun d n.0 t in
    let e = device_of (g.S.BootStage.hand c.in-Ok.next) in
    let b = begun_went g.J.Journal.entries g.J.Journal.files g.met.D.Disk.laws c.args.disk.now c.begin.new.disk told.list p d e world told living n.0 t at_stage
    (in_hand_stands g.met.D.Disk.laws g.met.J.Journal.laws _ c.args.disk.now d c.requires.held.0.0)
    (λ begun. (c.in-Ok.ensures.silent begun).0) (λ begun. ap (λ (s : _). device_of (g.S.BootStage.hand s)) (c.in-Ok.ensures.silent begun).1)
    (c.begin.ensures.moments (stored.BootBegun n.0) mark) (c.in-Ok.ensures.taken (stored.BootBegun n.0) mark) in
    (b.0, b.1, b.2, b.3, tt, tt)

pub returns-in-Ok-clause-begins : goal.returns-in-Ok-clause-begins
returns-in-Ok-clause-begins g c =
    let d = device_of (g.S.BootStage.hand c.args.state) in
    let n = next_told d c.requires.may in
    (n.0, n.1, c.in-Ok.ensures.taken (stored.BootBegun n.0) (mark_begun d n.0 (next_in d n.0 n.1)))

pub returns-in-Err-clause-trace : goal.returns-in-Err-clause-trace
returns-in-Err-clause-trace g c = λ p world told living at_stage.
    let d = device_of (g.S.BootStage.hand c.args.state) in
    let n = next_told d c.requires.may in
    let t = next_in d n.0 n.1 in
    begun_doubt g.J.Journal.entries g.J.Journal.files g.met.D.Disk.laws c.args.disk.now c.begin.new.disk told.list p d world told living n.0 t at_stage
    (λ begun. (c.in-Err.ensures.silent begun).1) (c.begin.ensures.moments (stored.BootBegun n.0) (mark_begun d n.0 t))
