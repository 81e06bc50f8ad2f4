use Rattle.std.proofs.Common.{sym, arith}
use Rattle.checkpoint_log.proofs.Looking.{cut_begins, none_begins, begins_store, begins_turn, slot_same}
use Rattle.checkpoint_log.proofs.look.beginning.Goals as goal
use Rattle.checkpoint_log.proofs.look.beginning.Goals.{then-len-eq0-via-then-len-eq0, then-len-eq0-via-else-len-eq0+then-len-gt-MOST_PAYLOAD}
use Rattle.checkpoint_log.proofs.look.beginning.Goals.{then-len-eq0-via-else-len-eq0+else-len-gt-MOST_PAYLOAD+then-size-len}
use Rattle.checkpoint_log.proofs.look.beginning.Goals.{else-odd-eq0-via-then-odd-eq0+else-head-eq17, else-odd-eq0-via-else-odd-eq0}
use Rattle.checkpoint_log.proofs.look.beginning.Goals.{then-len-lt9-via-then-len-lt9, then-len-lt9-via-else-len-lt9+then-head-ne25}
use Rattle.checkpoint_log.proofs.look.beginning.Goals.{then-len-lt9-via-else-len-lt9+else-head-ne25+then-number-eq0}
use Rattle.checkpoint_log.proofs.look.beginning.Goals.{then-len-lt9-via-else-len-lt9+else-head-ne25+else-number-eq0+then-number-odd}

pub returns-then-len-eq0 : goal.returns-then-len-eq0
returns-then-len-eq0 c file size head m same =
    cut_begins c.args.head.now file c.length_in-len.result m head c.length_in-len.ensures.value
    (elim c.then-len-eq0.branch [
      | then-len-eq0-via-then-len-eq0 w ↦ λ some fits within. omega (arith, some, w.if-len-eq0.true)
      | then-len-eq0-via-else-len-eq0+then-len-gt-MOST_PAYLOAD w ↦ λ some fits within. omega (arith, fits, w.if-len-gt-MOST_PAYLOAD.true)
      | then-len-eq0-via-else-len-eq0+else-len-gt-MOST_PAYLOAD+then-size-len w ↦ λ some fits within. omega (arith, within, size, w.if-size-len.true)
    ])

pub returns-then-head-eq17 : goal.returns-then-head-eq17
returns-then-head-eq17 c file size head = (
  begins_store c.args.head.now file c.length_in-len.result head c.length_in-len.ensures.small c.requires.open c.length_in-len.ensures.value
      (omega (arith, c.if-len-eq0.false)) (omega (arith, c.if-len-gt-MOST_PAYLOAD.false)) (omega (arith, c.if-size-len.false, size)) c.if-head-eq17.true,
  slot_same 0 c.args.odd c.requires.parity (sym c.if-odd-eq0.true),
)

pub returns-then-len-lt9 : goal.returns-then-len-lt9
returns-then-len-lt9 c file size head m =
    none_begins c.args.head.now file c.args.odd c.length_in-len.result c.number_in-number.result m c.requires.parity head c.length_in-len.ensures.value
    c.number_in-number.ensures.value
    (elim c.else-odd-eq0.branch [
      | else-odd-eq0-via-then-odd-eq0+else-head-eq17 w ↦ λ even first. w.if-head-eq17.false first
      | else-odd-eq0-via-else-odd-eq0 w ↦ λ even first. w.if-odd-eq0.false even
    ])
    (elim c.then-len-lt9.branch [
      | then-len-lt9-via-then-len-lt9 w ↦ λ nine first some parity. omega (arith, nine, w.if-len-lt9.true)
      | then-len-lt9-via-else-len-lt9+then-head-ne25 w ↦ λ nine first some parity. w.if-head-ne25.true first
      | then-len-lt9-via-else-len-lt9+else-head-ne25+then-number-eq0 w ↦ λ nine first some parity. omega (arith, some, w.if-number-eq0.true)
      | then-len-lt9-via-else-len-lt9+else-head-ne25+else-number-eq0+then-number-odd w ↦ λ nine first some parity. w.if-number-odd.true parity
    ])

pub returns : goal.returns
returns c file size head = (
  begins_turn c.args.head.now file c.length_in-len.result c.number_in-number.result head c.length_in-len.ensures.small c.requires.open
      c.length_in-len.ensures.value
      (omega (arith, c.if-len-lt9.false)) (omega (arith, c.if-len-gt-MOST_PAYLOAD.false)) (omega (arith, c.if-size-len.false, size)) c.if-head-ne25.false
      c.number_in-number.ensures.value (omega (arith, c.if-number-eq0.false)) c.number_in-number.type_inv,
  slot_same c.number_in-number.result c.args.odd c.requires.parity c.if-number-odd.false,
)
