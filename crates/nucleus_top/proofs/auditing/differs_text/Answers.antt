use Rattle.std.proofs.Common.{arith}
use Rattle.nucleus_top.proofs.Comparing.{paired_differs}
use Rattle.nucleus_top.proofs.auditing.differs_text.Goals as goal

pub returns : goal.returns
returns c =
    paired_differs c.args.file.now c.args.digest.now c.shown.result.now c.as_str.result.now c.paired.result c.shown.ensures
    (grind (arith, c.as_str.ensures, c.in_ok-digits.ensures, c.in_ok-digits.is, c.as_slice.ensures, c.encode.ensures)) c.paired.ensures
