-- An answer comes by the one command that the words ask.
use Rattle.std.proofs.Common.{◌≡◌, inl, inr, ℕ, List, sym, subst}
use Rattle.command_words.specs.Laws.{AsksOnce}
use Rattle.command_words.specs.declared.order.Order.{Order}
use Rattle.command_words.specs.declared.order.Order.TheVariants.{Init, Status, Plan, Audit, ConfigGet, Why, Workload, Components, About}
use Rattle.nucleus_top.specs.Words.{AsksOrder, DrivesNone}
use Rattle.nucleus_top.specs.Answers.{Store, Input, Shelf, IsUnchanged}
use Rattle.nucleus_top.specs.Parts.{Setting, WordsAnswer, OrderAnswer}
use Rattle.nucleus_top.specs.declared.answer.Answer.{Answer}
use Rattle.nucleus_top.specs.declared.answer.Answer.TheVariants.{NoMemory}

pub one_order : AsksOnce → (words : List (List ℕ)) (a b : Order) → AsksOrder words a → AsksOrder words b → a ≡ b
one_order once words a b x y = (once words x.root y.root a b x.is_order y.is_order).1

memory_of : (setting : Setting) (order : Order) (store : Store) (input : Input) (library : Shelf) → DrivesNone order → IsUnchanged store →
    OrderAnswer setting order store input library NoMemory
memory_of setting (Init o) store input library built same = same
memory_of setting (Status json) store input library built same = same
memory_of setting Plan store input library built same = same
memory_of setting Audit store input library built same = same
memory_of setting (ConfigGet name at) store input library built same = same
memory_of setting (Workload seed) store input library built same = same
memory_of setting Why store input library built same = same
memory_of setting Components store input library built same = same
memory_of setting About store input library built same = same
memory_of setting _ store input library built same = absurd built

pub comes_of : AsksOnce → (setting : Setting) (words : List (List ℕ)) (order : Order) (store : Store) (input : Input) (library : Shelf) (a : Answer) →
    AsksOrder words order → WordsAnswer setting words store input library a → OrderAnswer setting order store input library a
comes_of once setting words order store input library a is (inl comes) =
    subst (λ (o : Order). OrderAnswer setting o store input library a) (one_order once words comes.0 order comes.1 is) comes.2
comes_of once setting words order store input library a is (inr (inl wrong)) = absurd (wrong.1 order is)
comes_of once setting words order store input library a is (inr (inr memory)) =
    subst (λ (x : Answer). OrderAnswer setting order store input library x) (sym memory.0)
    (memory_of setting order store input library is.drives_none memory.1)
