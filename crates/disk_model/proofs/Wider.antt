-- What a shorter write or cut may leave is among what a longer one may.
use Rattle.std.proofs.Common.{◌≡◌, ℕ, ◌+◌, ◌-◌, ◌≤◌, List, drop, sym, ◌∙◌, ap, arith}
use Rattle.std.proofs.lemmas.List.{drop-drop}
use Rattle.disk_model.specs.Disk.{Torn, Cut}

pub cut_wider : (n m : ℕ) → n ≤ m → (a b : List ℕ) → Cut m a b → Cut n a b
cut_wider n m le a b cut = record { no_shorter = omega (arith, cut.no_shorter); prefix = cut.prefix }

pub torn_wider : (at m n : ℕ) → m ≤ n → (a b : List ℕ) → Torn at m a b → Torn at n a b
torn_wider at m n le a b torn = record {
  before = torn.before;
  after = far b ∙ ap (λ (l : List ℕ). drop (n - m) l) torn.after ∙ sym (far a);
  no_shorter = torn.no_shorter;
  no_longer = omega (arith, torn.no_longer);
}
  where
    far : (l : List ℕ) → drop (at + n) l ≡ drop (n - m) (drop (at + m) l)
    far l = ap (λ (k : ℕ). drop k l) (omega (arith, le)) ∙ sym (drop-drop (n - m) (at + m) l)
