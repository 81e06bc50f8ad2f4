use Rattle.std.proofs.Common.{◌≡◌, ℕ, ◌<◌, List, length, get_or, Some}
use Rattle.recipe_reader.specs.Members.{members}
use Rattle.recipe_reader.specs.Sets.{name_of}
use Rattle.conflict_search.specs.Numbers.{IsNumber, IsFirstPlace}
use Rattle.conflict_search.proofs.names.Names.new.Given as goal

abbrev pub invariant-loop-place : goal.invariant-loop-place
invariant-loop-place l = record {
  firsts : length l.first.items ≡ l.place;
  lasts : length l.last.items ≡ l.place;
  first : (p : ℕ) (n : List ℕ) → p < l.place → name_of (members l.candidates) p ≡ Some n → IsFirstPlace (members l.candidates) n (get_or l.first.items p 0);
  last : (p : ℕ) (n : List ℕ) → p < l.place → name_of (members l.candidates) p ≡ Some n → IsNumber (members l.candidates) n (get_or l.last.items p 0);
}
