-- What is added at the end piece by piece.
use Rattle.std.proofs.Common.{◌≡◌, List, ◌++◌, Result, Ok, Err, ap, sym, ◌∙◌, append_assoc}
use Rattle.std.specs.Prelude.{OnOk}

pub after : {A E X : Type 0} (r : Result A E) (new mid old a b : List X) → mid ≡ old ++ a → OnOk r (new ≡ mid ++ b) → OnOk r (new ≡ old ++ (a ++ b))
after (Ok x) new mid old a b first second = second ∙ ap (λ (t : List _). t ++ b) first ∙ append_assoc old a b
after (Err e) new mid old a b first second = tt

-- the same text in another form
pub as_text : {A E X : Type 0} (r : Result A E) (new old text other : List X) → text ≡ other → OnOk r (new ≡ old ++ other) → OnOk r (new ≡ old ++ text)
as_text (Ok x) new old text other same put = put ∙ ap (λ (t : List _). old ++ t) (sym same)
as_text (Err e) new old text other same put = tt
