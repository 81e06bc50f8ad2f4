use Rattle.std.proofs.Common.{ℕ, ◌+◌, take, sym, subst, Vec, Global}
use Rattle.why_not.specs.Gathers.{JoinsOthers}
use Rattle.why_not.proofs.Joining.{joins_more, joins_same}
use Rattle.why_not.proofs.explaining.add_others.Goals as goal
use Rattle.why_not.proofs.explaining.add_others.Goals.{then-other-place+in_ok-add, else-other-place}

pub loop-other-preserved : goal.loop-other-preserved
loop-other-preserved c =
    let i = c.loop-other.other-index in
    let own = c.args.own.now in
    elim c.if-other-place.branch [
      | then-other-place+in_ok-add w ↦
          subst (λ (v : Vec ℕ Global). JoinsOthers c.args.place (take (i + 1) own) c.args.used.now.items v.items) (sym w.used-is)
          (joins_more c.args.place own c.args.used.now.items c.loop-other.used.items i c.loop-other-test.true c.loop-other.invariant
          w.add.new.places.items (λ e. w.if-other-place.true (sym e)) w.in_ok-add.ensures)
      | else-other-place w ↦
          subst (λ (v : Vec ℕ Global). JoinsOthers c.args.place (take (i + 1) own) c.args.used.now.items v.items) (sym w.used-is)
          (joins_same c.args.place own c.args.used.now.items c.loop-other.used.items i c.loop-other-test.true c.loop-other.invariant
          w.if-other-place.false)
    ]
