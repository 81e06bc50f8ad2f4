-- What is put behind a closed first gate, and what is there once it opens.
use Rattle.std.proofs.Common.{◌≡◌, ◌≢◌, ◌⊎◌, inl, inr, ℕ, zero, suc, ◌+◌, ◌≤◌, min, List, [], ◌∷◌, ◌++◌, length, map, get_or, take, drop, refl, sym, ◌∙◌, ap}
use Rattle.std.proofs.Common.{subst, arith, append_assoc, length-append}
use Rattle.std.proofs.lemmas.Bool.{cases_eq}
use Rattle.std.proofs.lemmas.List.{append-nil, map_push}
use Rattle.std.specs.Int.{w32, to_be_bytes}
use Rattle.disk_model.specs.Disk.{IsPutAt, Lengthened, Torn}
use Rattle.gate_log.specs.Entries.{most_payload, entry, joined, AllGood, ClosedAt, HoldsNone}
use Rattle.gate_log.specs.Laws.{entry_same, length-entry}
use Rattle.gate_log.proofs.Gates.{joined_push, good_push}
use Rattle.gate_log.proofs.Writes.{begins_on}
use Rattle.checkpoint_log.specs.Beginnings.{IsOlder}
use Rattle.checkpoint_log.specs.Slots.{IsOpened, IsPutWith}
use Rattle.checkpoint_log.specs.Turns.{IsShutOn, KeepsStart}

next_is : (k n : ℕ) → suc k + n ≡ suc (k + n)
next_is k n = omega arith

-- a write behind the first byte
pub opened_on : (prefix bytes old new : List ℕ) (at : ℕ) → length prefix ≡ at → 1 ≤ at → IsOpened prefix old → IsPutAt at bytes old new →
    IsOpened (prefix ++ bytes) new
opened_on prefix bytes old new zero size some was holds = absurd (omega (arith, some))
opened_on prefix bytes old new (suc k) size some was holds =
    let new_is : new ≡ 0 ∷ (take k was.behind ++ bytes ++ drop (k + length bytes) was.behind) =
    holds ∙ ap (λ (l : List ℕ). take (suc k) l ++ bytes ++ drop (suc k + length bytes) l) was.file_is
    ∙ ap (λ (n : ℕ). 0 ∷ (take k was.behind ++ bytes ++ drop n (0 ∷ was.behind))) (next_is k (length bytes)) in
    let next = begins_on prefix bytes (1 ∷ was.behind) (1 ∷ (take k was.behind ++ bytes ++ drop (k + length bytes) was.behind)) (suc k) size
    (was.rest, was.opened)
    (ap (λ (n : ℕ). 1 ∷ (take k was.behind ++ bytes ++ drop n (1 ∷ was.behind))) (sym (next_is k (length bytes)))) in
    record { behind = take k was.behind ++ bytes ++ drop (k + length bytes) was.behind; rest = next.0; file_is = new_is; opened = next.1 }

-- the file is as long as what it has
pub opened_long : (prefix file : List ℕ) → IsOpened prefix file → length prefix ≤ length file
opened_long prefix file was = omega (arith, ap length was.file_is, ap length was.opened, length-append prefix was.rest)

pub put_long : (tail file : List ℕ) (end : ℕ) (payloads : List (List ℕ)) → IsPutWith tail file end payloads → end + length tail ≤ length file
put_long tail file end payloads put = omega (arith, opened_long _ file put.there, length-append (joined put.entries) tail, put.end_is)

-- the gate behind them
pub gate_on : (old new : List ℕ) (gate end : ℕ) (payloads : List (List ℕ)) → 1 ≤ end → IsPutWith [] old end payloads → IsPutAt end (gate ∷ []) old new →
    IsPutWith (gate ∷ []) new end payloads
gate_on old new gate end payloads some put holds = record {
  entries = put.entries;
  good = put.good;
  payloads_are = put.payloads_are;
  end_is = put.end_is;
  there = opened_on (joined put.entries) (gate ∷ []) old new end (sym put.end_is) some
      (subst (λ (l : List ℕ). IsOpened l old) (append-nil (joined put.entries)) put.there) holds;
}

-- the first gate counts as open
pub gate_first : (file : List ℕ) (end : ℕ) (payloads : List (List ℕ)) → end ≡ 0 → IsPutWith [] file end payloads → IsPutWith (1 ∷ []) file end payloads
gate_first file end payloads zero_is put = by_entries put.entries put.good put.payloads_are put.end_is put.there
  where
    by_entries : (es : List (ℕ × List ℕ)) → AllGood es → map (λ (e : ℕ × List ℕ). e.1) es ≡ payloads → end ≡ length (joined es) →
        IsOpened (joined es ++ []) file → IsPutWith (1 ∷ []) file end payloads
    by_entries [] good are is there = record {
      entries = [];
      good = good;
      payloads_are = are;
      end_is = is;
      there = record { behind = there.behind; rest = there.behind; file_is = there.file_is; opened = refl };
    }
    by_entries (e ∷ es) good are is there = absurd (omega (arith, zero_is, is, length-append (entry e) (joined es), length-entry e))

-- and the entry behind that gate
pub entry_on : (a b c : List ℕ) (end : ℕ) (payloads : List (List ℕ)) (payload : List ℕ) → 1 ≤ length payload → length payload ≤ most_payload
    → IsPutWith (1 ∷ []) a end payloads → IsPutAt (end + 1) (to_be_bytes w32 (length payload)) a b → IsPutAt (end + 5) payload b c
    → IsPutWith [] c (end + 5 + length payload) (payloads ++ payload ∷ [])
entry_on a b c end payloads payload some fits put head body =
    let h = to_be_bytes w32 (length payload) in
    let prefix = joined put.entries in
    let e : ℕ × List ℕ = (1, payload) in
    let one = opened_on (prefix ++ 1 ∷ []) h a b (end + 1) (omega (arith, length-append prefix (1 ∷ []), put.end_is)) (omega arith) put.there head in
    let two = opened_on (prefix ++ (1 ∷ []) ++ h) payload b c (end + 5)
    (omega (arith, length-append (prefix ++ 1 ∷ []) h, length-append prefix (1 ∷ []), put.end_is)) (omega arith) one body in
    let whole : joined (put.entries ++ e ∷ []) ≡ prefix ++ entry e = joined_push put.entries e in
    let same : prefix ++ (1 ∷ []) ++ h ++ payload ≡ joined (put.entries ++ e ∷ []) ++ [] =
    append_assoc (prefix ++ 1 ∷ []) h payload ∙ append_assoc prefix (1 ∷ []) (h ++ payload) ∙ sym whole ∙ sym (append-nil (joined (put.entries ++ e ∷ []))) in
    record {
      entries = put.entries ++ e ∷ [];
      good = good_push put.entries e put.good (record { is_open = λ z. absurd (omega (arith, z)); some = some; fits = fits });
      payloads_are = map_push (λ (x : ℕ × List ℕ). x.1) put.entries e ∙ ap (λ (l : List (List ℕ)). l ++ payload ∷ []) put.payloads_are;
      end_is = sym (ap length whole ∙ omega (arith, length-append prefix (entry e), length-entry e, put.end_is));
      there = subst (λ (l : List ℕ). IsOpened l c) same two;
    }

-- nothing is put yet
pub put_none : (file more : List ℕ) → file ≡ 0 ∷ more → IsPutWith [] file 0 []
put_none file more is = record {
  entries = [];
  good = tt;
  payloads_are = refl;
  end_is = refl;
  there = record { behind = more; rest = 1 ∷ more; file_is = is; opened = refl };
}

-- what was put stays in a file that goes on
pub put_stays : (to : ℕ) (a b : List ℕ) (end : ℕ) (payloads : List (List ℕ)) → Lengthened to a b → IsPutWith [] a end payloads → IsPutWith [] b end payloads
put_stays to a b end payloads longer put = record {
  entries = put.entries;
  good = put.good;
  payloads_are = put.payloads_are;
  end_is = put.end_is;
  there = record {
    behind = put.there.behind ++ longer.more;
    rest = put.there.rest ++ longer.more;
    file_is = longer.is ∙ ap (λ (l : List ℕ). l ++ longer.more) put.there.file_is;
    opened = ap (λ (l : List ℕ). l ++ longer.more) put.there.opened ∙ append_assoc (joined put.entries ++ []) put.there.rest longer.more;
  };
}

-- what was put is one list
chains : (es fs : List (ℕ × List ℕ)) (s t : List ℕ) → AllGood es → AllGood fs → length (joined es) ≡ length (joined fs) → joined es ++ s ≡ joined fs ++ t
    → map (λ (e : ℕ × List ℕ). e.1) es ≡ map (λ (e : ℕ × List ℕ). e.1) fs
chains [] [] s t good other size is = refl
chains [] (f ∷ fs) s t good other size is = absurd (omega (arith, size, length-append (entry f) (joined fs), length-entry f))
chains (e ∷ es) [] s t good other size is = absurd (omega (arith, size, length-append (entry e) (joined es), length-entry e))
chains (e ∷ es) (f ∷ fs) s t good other size is =
    let one = entry_same e f (joined es ++ s) (joined fs ++ t) good.0 other.0 (sym (append_assoc (entry e) (joined es) s) ∙ is ∙ append_assoc (entry f)
    (joined fs) t) in
    let sizes : length (joined es) ≡ length (joined fs) = omega (
      arith,
      size,
      length-append (entry e) (joined es),
      length-entry e,
      length-append (entry f) (joined fs),
      length-entry f,
      ap length one.0,
    ) in
    (λ i. one.0 i ∷ chains es fs s t good.1 other.1 sizes one.1 i)

pub put_one : (file : List ℕ) (end : ℕ) (p q : List (List ℕ)) → IsPutWith [] file end p → IsPutWith [] file end q → p ≡ q
put_one file end p q a b =
    let same : a.there.behind ≡ b.there.behind = ap (λ (l : List ℕ). drop 1 l) (sym a.there.file_is ∙ b.there.file_is) in
    let bytes : joined a.entries ++ a.there.rest ≡ joined b.entries ++ b.there.rest =
    ap (λ (l : List ℕ). l ++ a.there.rest) (sym (append-nil (joined a.entries))) ∙ sym a.there.opened ∙ ap (λ (l : List ℕ). 1 ∷ l) same ∙ b.there.opened ∙ ap
    (λ (l : List ℕ). l ++ b.there.rest) (append-nil (joined b.entries)) in
    sym a.payloads_are ∙ chains a.entries b.entries a.there.rest b.there.rest a.good b.good (sym a.end_is ∙ b.end_is) bytes ∙ b.payloads_are

-- where something was put, its end is behind the beginning
pub put_some : (file : List ℕ) (end : ℕ) (first : List ℕ) (others payloads : List (List ℕ)) → payloads ≡ first ∷ others → IsPutWith [] file end payloads →
    1 ≤ end
put_some file end first others payloads is put = by_entries put.entries put.payloads_are put.end_is
  where
    by_entries : (es : List (ℕ × List ℕ)) → map (λ (e : ℕ × List ℕ). e.1) es ≡ payloads → end ≡ length (joined es) → 1 ≤ end
    by_entries [] are end_is = absurd (omega (arith, ap length (are ∙ is)))
    by_entries (e ∷ es) are end_is = omega (arith, end_is, length-append (entry e) (joined es), length-entry e)

-- another byte that is not 0 in place of the first gate
pub first_gate : (c : List ℕ) (gate end : ℕ) (first : List ℕ) (others payloads : List (List ℕ)) (file : List ℕ) → gate ≢ 0 → payloads ≡ first ∷ others
    → (put : IsPutWith (0 ∷ []) file end payloads) → c ≡ gate ∷ put.there.behind → ClosedAt c end payloads
first_gate c gate end first others payloads file is_open is put c_is = by_entries put.entries put.good put.payloads_are put.end_is put.there.opened
  where
    by_entries : (es : List (ℕ × List ℕ)) → AllGood es → map (λ (e : ℕ × List ℕ). e.1) es ≡ payloads → end ≡ length (joined es) → 1 ∷
        put.there.behind ≡ joined es ++ (0 ∷ []) ++ put.there.rest → ClosedAt c end payloads
    by_entries [] good are end_is opened = absurd (omega (arith, ap length (are ∙ is)))
    by_entries (e ∷ es) good are end_is opened =
        let f : ℕ × List ℕ = (gate, e.1) in
        record {
          entries = f ∷ es;
          tail = put.there.rest;
          good = (record { is_open = is_open; some = good.0.some; fits = good.0.fits }, good.1);
          payloads_are = are;
          file_is = c_is ∙ ap (λ (l : List ℕ). gate ∷ drop 1 l) opened
              ∙ append_assoc (joined (f ∷ es)) (0 ∷ []) put.there.rest;
          end_is = end_is;
        }

-- ---- the beginning of the other slot

first_byte : (file : List ℕ) → 1 ≤ length file → file ≡ get_or file 0 0 ∷ drop 1 file
first_byte [] some = absurd (omega (arith, some))
first_byte (a ∷ l) some = refl

pub shut_none : (file more : List ℕ) → file ≡ 0 ∷ more → HoldsNone file
shut_none file more is = inr (ap (λ (l : List ℕ). get_or l 0 0) is)

pub keeps_shut : (a b more : List ℕ) → a ≡ 0 ∷ more → KeepsStart a b → (rest : List ℕ) × (b ≡ 0 ∷ rest)
keeps_shut a [] more is same = absurd (omega (arith, ap length (same ∙ ap (λ (l : List ℕ). take 1 l) is)))
keeps_shut a (x ∷ b) more is same = (b, ap (λ (n : ℕ). n ∷ b) (ap (λ (l : List ℕ). get_or l 0 0) (same ∙ ap (λ (l : List ℕ). take 1 l) is)))

-- the gate torn, over what is whole behind it
pub torn_start : (a b : List ℕ) (gate : ℕ) (behind : List ℕ) → a ≡ gate ∷ behind → Torn 0 1 a b → b ≡ get_or b 0 0 ∷ behind
torn_start a b gate behind is torn =
    first_byte b (omega (arith, ap length is, torn.no_shorter)) ∙ ap (λ (l : List ℕ). get_or b 0 0 ∷ l) (torn.after ∙ ap (λ (l : List ℕ). drop 1 l) is)

-- a closing of the beginning leaves the slot older
pub shut_older : (name a b : List ℕ) (n : ℕ) → IsOlder name a n → IsShutOn a b → IsOlder name b n
shut_older name a b n older (inl same) = subst (λ (l : List ℕ). IsOlder name l n) (sym same) older
shut_older name a b n (inl (inl short)) (inr torn) = inl (inl (omega (arith, short, torn.1.no_longer)))
shut_older name a b n (inl (inr shut)) (inr (inl some, torn)) = absurd (some shut)
shut_older name a b n (inl (inr shut)) (inr (inr empty, torn)) = inl (inl (omega (arith, empty, torn.no_longer)))
shut_older name a b n (inr older) (inr torn) =
    let begins = older.3 in
    let e = begins.first in
    let h = to_be_bytes w32 (length e.1) in
    let whole = torn_start a b e.0 ((h ++ e.1) ++ begins.more) begins.file_is torn.1 in
    elim (cases_eq (get_or b 0 0) 0) [
      | inl shut ↦ inl (inr shut)
      | inr is_open ↦ inr (
        older.0,
        older.1,
        older.2,
        record {
          first = (get_or b 0 0, e.1);
          more = begins.more;
          good = record { is_open = is_open; some = begins.good.some; fits = begins.good.fits };
          file_is = whole;
          says = begins.says;
        },
      )
    ]

-- what a read of one byte says where it is not 0
pub not_shut : (file into rest : List ℕ) (n : ℕ) → n ≡ min 1 (length (drop 0 file)) → into ≡ take n (drop 0 file) ++ rest →
    (n ≡ 1 → get_or into 0 0 ≡ 0 → ⊥) → (get_or file 0 0 ≢ 0) ⊎ (length file ≡ 0)
not_shut [] into rest n n_is is other = inr refl
not_shut (a ∷ tail) into rest n n_is is other =
    let one : n ≡ 1 = omega arith in
    let whole : into ≡ a ∷ rest = is ∙ ap (λ (k : ℕ). take k (a ∷ tail) ++ rest) one in
    inl (λ z. other one (ap (λ (l : List ℕ). get_or l 0 0) whole ∙ z))

pub head_long : (a b h : List ℕ) (end : ℕ) (payloads : List (List ℕ)) → length h ≡ 4 → IsPutWith (1 ∷ []) a end payloads → IsPutAt (end + 1) h a b →
    end + 5 ≤ length b
head_long a b h end payloads four put head =
    let prefix = joined put.entries in
    let one = opened_on (prefix ++ 1 ∷ []) h a b (end + 1) (omega (arith, length-append prefix (1 ∷ []), put.end_is)) (omega arith) put.there head in
    omega (arith, opened_long _ b one, length-append (prefix ++ 1 ∷ []) h, length-append prefix (1 ∷ []), put.end_is, four)
