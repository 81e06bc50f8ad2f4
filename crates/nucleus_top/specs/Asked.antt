-- What words ask, as far as it drives a deployment.
use Rattle.std.specs.Prelude.{ℕ, List, ⊤}
use Rattle.admission.specs.declared.ask.Ask.TheVariants as ask
use Rattle.command_words.specs.Words.{IsOrder}
use Rattle.command_words.specs.declared.order.Order.{Order}
use Rattle.command_words.specs.declared.order.Order.TheVariants as orders
use Rattle.nucleus_top.specs.Drives.{AsksTo, AsksToDrive, AsksToServeTurns}
use Rattle.nucleus_top.specs.declared.asking.Asked.{Asked}
use Rattle.nucleus_top.specs.declared.asking.Asked.TheVariants.{Deploy, Resume, Serve, Other, NoMemory}

abbrev pub asked_of : Order → Asked
asked_of orders.Deploy = Deploy ask.Document
asked_of orders.Local = Deploy ask.Local
asked_of (orders.ConfigSet name) = Deploy (ask.Change name)
asked_of orders.Resume = Resume
asked_of (orders.Serve turns) = Serve turns
asked_of (orders.Init origin) = Other
asked_of (orders.Status json) = Other
asked_of orders.Plan = Other
asked_of (orders.Workload seed) = Other
asked_of orders.Audit = Other
asked_of (orders.ConfigGet name at) = Other
asked_of orders.Why = Other
asked_of orders.Components = Other
asked_of orders.About = Other

abbrev pub AreWordsFor : List (List ℕ) → Asked → Type 0
AreWordsFor words (Deploy what) = AsksTo words what
AreWordsFor words Resume = (root : List ℕ) × IsOrder words root orders.Resume
AreWordsFor words (Serve turns) = AsksToServeTurns words turns
AreWordsFor words Other = AsksToDrive words → ⊥
AreWordsFor words NoMemory = ⊤
