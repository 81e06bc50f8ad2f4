use Rattle.npm_ranges.specs.OrderLaws.{version_total}
use Rattle.npm_ranges.proofs.VersionOrders.{versions_tell}
use Rattle.npm_ranges.proofs.VersionTexts.{version_bytes}
use Rattle.npm_ranges.proofs.laws.order_of_versions.Goals as goal

pub returns : goal.returns
returns c = record { total = version_total; bytes = version_bytes; tells_apart = versions_tell }
