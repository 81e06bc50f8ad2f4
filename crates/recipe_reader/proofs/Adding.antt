-- What adding a candidate comes to.
use Rattle.std.proofs.Common.{◌≡◌, ◌≢◌, ℕ, ◌<◌, ◌≤◌, ◌^◌, ◌-◌, List, length, get_or, Result, Ok, Err, OnOk, OnErr, IfErr, MatchResult, refl, sym, ap, subst}
use Rattle.std.proofs.Common.{◌∙◌, inl, inr, arith}
use Rattle.std.specs.List.{AllWithin, HoldsAt, insert}
use Rattle.std.proofs.lemmas.List.{get_or_default}
use Rattle.std.proofs.lemmas.List.Edits.{length-insert}
use Rattle.recipe_reader.specs.Members.{member, IsBefore}
use Rattle.recipe_reader.specs.Candidates.{IsRead, AreCandidates, IsAlike, HasClash, IsPutIn, IsAdded}
use Rattle.recipe_reader.specs.Refused.{IsRefused}
use Rattle.recipe_reader.specs.declared.candidate.Candidate.{Candidate}
use Rattle.recipe_reader.specs.declared.candidates.AddRefusal.{AddRefusal}
use Rattle.recipe_reader.specs.declared.candidates.AddRefusal.TheVariants.{Clash, NoMemory}
use Rattle.recipe_reader.proofs.Orders.{rising_pairs, pairs_rising, pairs_insert, all_insert, one_alike, none_alike, put_in, Precedes}

pub record Outcome (old : List Candidate) (c : Candidate) (new : List Candidate) (r : Result (Unit {0}) AddRefusal) : Type 0 where
  pub added : OnOk r (IsAdded old c new)
  pub agrees : OnOk r (HasClash old c → ⊥)
  pub refused : IfErr r (IsRefused old c)
  pub unchanged : OnErr r (new ≡ old)
  pub rule : AreCandidates new

-- ---- where one of its name and version stands

abbrev pub Settles : Candidate → Candidate → Result (Unit {0}) AddRefusal → Type 0
Settles standing c r = MatchResult r (λ _. standing.bytes ≡ c.bytes) (λ refusal. (refusal ≡ Clash c) × (standing.bytes ≢ c.bytes))

pub settled : (cs : List Candidate) (c standing : Candidate) (at : ℕ) (r : Result (Unit {0}) AddRefusal)
    → AreCandidates cs → at < length cs → standing ≡ get_or cs at standing → HoldsAt (λ d. IsAlike d c) cs at → Settles standing c r → Outcome cs c cs r
settled cs c standing at (Ok u) are within is alike same = record {
  added = inl (
    record {
      as_one = standing;
      there = (at, within, sym is);
      alike = subst (λ (d : Candidate). IsAlike d c) (sym is) (alike standing);
      same =
          same;
    },
    refl,
  );
  agrees = λ clash.
      let e = clash.with in
      let here = one_alike cs c e at are.rising within alike clash.there clash.alike in
      let one : e ≡ standing = sym here ∙ get_or_default cs at e standing within ∙ sym is in
      clash.differs (ap (λ (d : Candidate). d.bytes) one ∙ same);
  refused = tt;
  unchanged = tt;
  rule = are;
}
settled cs c standing at (Err refusal) are within is alike h = record {
  added = tt;
  agrees = tt;
  refused = subst (IsRefused cs c) (sym h.0) (
    refl,
    record {
      with = standing;
      there = (at, within, sym is);
      alike =
          subst (λ (d : Candidate). IsAlike d c) (sym is) (alike standing);
      differs = h.1;
    },
  );
  unchanged = refl;
  rule = are;
}

-- ---- where none stands

inserted : (cs : List Candidate) (c : Candidate) (at : ℕ) → AreCandidates cs → IsRead c → length cs < 2 ^ 32 - 1 → at ≤ length cs
    → AllWithin (λ d. IsBefore (member d) (member c)) cs 0 at → AllWithin (λ d. IsBefore (member c) (member d)) cs at (length cs) →
    AreCandidates (insert cs at c)
inserted cs c at are read room within before after = record {
  rising = pairs_rising (insert cs at c) (pairs_insert Precedes cs at c within (rising_pairs cs are.rising) before after);
  read = all_insert IsRead cs at c within are.read read;
  count = omega (arith, length-insert cs at c within);
}

pub put_there : (cs new : List Candidate) (c : Candidate) (at : ℕ) (r : Result (Unit {0}) AddRefusal)
    → AreCandidates cs → IsRead c → length cs < 2 ^ 32 - 1 → at ≤ length cs
    → AllWithin (λ d. IsBefore (member d) (member c)) cs 0 at → AllWithin (λ d. IsBefore (member c) (member d)) cs at (length cs)
    → OnOk r (new ≡ insert cs at c) → IfErr r (λ refusal. (new ≡ cs) × (refusal ≡ NoMemory c)) → Outcome cs c new r
put_there cs new c at (Ok u) are read room within before after put refused =
    let free = none_alike cs c at before after in record {
      added = inr (subst (IsPutIn cs c) (sym put) (put_in cs c at free));
      agrees = λ clash. free clash.with clash.there clash.alike;
      refused = tt;
      unchanged = tt;
      rule = subst AreCandidates (sym put) (inserted cs c at are read room within before after);
    }
put_there cs new c at (Err refusal) are read room within before after put refused =
    let free = none_alike cs c at before after in record {
      added = tt;
      agrees = tt;
      refused = subst (IsRefused cs c) (sym refused.1) (refl, λ clash. free clash.with clash.there clash.alike);
      unchanged = refused.0;
      rule = subst AreCandidates (sym refused.0) are;
    }

-- ---- the same where the value, its list and slices of it are told apart

pub settled_at : (value inside slice again : List Candidate) (c standing : Candidate) (at : ℕ) (r : Result (Unit {0}) AddRefusal)
    → inside ≡ value → slice ≡ inside → again ≡ inside → AreCandidates inside → at < length slice → standing ≡ get_or again at standing →
    HoldsAt (λ d. IsAlike d c) slice at → Settles standing c r
    → Outcome value c value r
settled_at value inside slice again c standing at r a b e are within is alike h =
    settled value c standing at r (subst AreCandidates a are) (subst (λ (cs : List Candidate). at < length cs) (b ∙ a) within)
    (subst (λ (cs : List Candidate). standing ≡ get_or cs at standing) (e ∙ a) is)
    (subst (λ (cs : List Candidate). HoldsAt (λ d. IsAlike d c) cs at) (b ∙ a) alike) h

abbrev pub IsGap : Candidate → List Candidate → ℕ → Type 0
IsGap c cs at = AllWithin (λ d. IsBefore (member d) (member c)) cs 0 at × AllWithin (λ d. IsBefore (member c) (member d)) cs at (length cs)

pub put_at : (value inside slice new : List Candidate) (c : Candidate) (at : ℕ) (r : Result (Unit {0}) AddRefusal)
    → inside ≡ value → slice ≡ inside → AreCandidates inside → IsRead c → length value < 2 ^ 32 - 1 → at ≤ length slice → IsGap c slice at
    → OnOk r (new ≡ insert inside at c) → IfErr r (λ refusal. (new ≡ inside) × (refusal ≡ NoMemory c)) → Outcome value c new r
put_at value inside slice new c at r a b are read room within gap put refused =
    let g : IsGap c value at = subst (λ (cs : List Candidate). IsGap c cs at) (b ∙ a) gap in
    put_there value new c at r (subst AreCandidates a are) read room (subst (λ (cs : List Candidate). at ≤ length cs) (b ∙ a) within) g.0 g.1
    (subst (λ (cs : List Candidate). OnOk r (new ≡ insert cs at c)) a put) (subst (λ (cs : List Candidate). IfErr r (λ refusal. (new ≡ cs) ×
    (refusal ≡ NoMemory c))) a refused)
