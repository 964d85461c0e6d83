-- The kind of a record is read as its number is spelled.
use Rattle.std.proofs.Common.{◌≡◌, ℕ, suc, List, [], ◌∷◌, ◌++◌, length, Option, Some, None, Ok, Err, refl, sym, ap, ◌∙◌}
use Rattle.qm_kinds.specs.declared.request_kind.RequestKind.{RequestKind}
use Rattle.qm_kinds.specs.declared.request_kind.RequestKind.TheVariants as requests
use Rattle.qm_kinds.specs.Requests.{request_kind, request_number}
use Rattle.qm_kinds.proofs.RequestNumbers.{same_kind, tells, tells_none, kind_again as request_again, number_back as request_back}
use Rattle.qm_bytes.specs.Laws.{Spells, Stops, IsReader}
use Rattle.qm_bytes.specs.Spelling.{byte}
use Rattle.qm_bytes.proofs.Readers.{same_value, same_rest}
use Rattle.qm_record.specs.declared.kind.RecordKind.{RecordKind}
use Rattle.qm_record.specs.declared.kind.RecordKind.TheVariants.{Request, Mark, Done, Tick, NodeUp, NodeLost, Took, Head, Form, Queue}
use Rattle.qm_record.specs.Kinds.{number_of, kind_of, other_kind, request_or}
use Rattle.qm_record.specs.Reading.{told, record_kind_at}

abbrev some_kind : RecordKind → Option RecordKind
some_kind k = Some k

pub kind_again : (k : RecordKind) → kind_of (number_of k) ≡ Some k
kind_again (Request k) = ap (λ o. request_or o (other_kind (request_number k))) (request_again k)
kind_again Mark = refl
kind_again Done = refl
kind_again Tick = refl
kind_again NodeUp = refl
kind_again NodeLost = refl
kind_again Took = refl
kind_again Head = refl
kind_again Form = refl
kind_again Queue = refl

other_back : (n : ℕ) (k : RecordKind) → other_kind n ≡ Some k → n ≡ number_of k
other_back n k =
    tells number_of n Mark k
    (tells number_of n Done k
    (tells number_of n Tick k
    (tells number_of n NodeUp k
    (tells number_of n NodeLost k
    (tells number_of n Took k
    (tells number_of n Head k
    (tells number_of n Form k
    (tells number_of n Queue k
    (tells_none number_of n k)))))))))

either_back : (n : ℕ) (k : RecordKind) (o : Option RequestKind) → request_kind n ≡ o → request_or o (other_kind n) ≡ Some k → n ≡ number_of k
either_back n k (Some asked) is h = request_back n asked is ∙ ap number_of (same_kind (Request asked) k h)
either_back n k None is h = other_back n k h

number_back : (n : ℕ) (k : RecordKind) → kind_of n ≡ Some k → n ≡ number_of k
number_back n k h = either_back n k (request_kind n) refl h

abbrev pub KindSpelled : RecordKind → List ℕ → Type 0
KindSpelled = Spells (λ k. Unit {0}) (λ k. byte (number_of k))

told_kind : (o : Option RecordKind) (bytes rest : List ℕ) (k : RecordKind) → told o bytes ≡ Ok (k, rest)
    → (o ≡ Some k) × (bytes ≡ rest)
told_kind None bytes rest k e = absurd cc
told_kind (Some other) bytes rest k e = (ap some_kind (same_value other k bytes rest e), same_rest other k bytes rest e)

told_none : (o : Option RecordKind) (bytes : List ℕ) (left : ℕ) → told o bytes ≡ Err left
    → (o ≡ None) × (suc (length bytes) ≡ left)
told_none None bytes left e = (refl, cc)
told_none (Some other) bytes left e = absurd cc

kind_takes : (bytes : List ℕ) (k : RecordKind) (rest : List ℕ) → record_kind_at bytes ≡ Ok (k, rest)
    → (front : List ℕ) × KindSpelled k front × (bytes ≡ front ++ rest)
unfolding record_kind_at
kind_takes [] k rest e = absurd cc
kind_takes (n ∷ bytes) k rest e =
    let t = told_kind (kind_of n) bytes rest k e in
    (n ∷ [], record { fits = tt; is = ap byte (number_back n k t.0) }, ap (λ (xs : List ℕ). n ∷ xs) t.1)

kind_stops : (bytes : List ℕ) (left : ℕ) → record_kind_at bytes ≡ Err left → Stops KindSpelled record_kind_at bytes left
unfolding record_kind_at
kind_stops [] left e = record {
  front = [];
  behind = [];
  parts = refl;
  place = cc;
  value = Request requests.Append;
  more = 1 ∷ [];
  begins = record { fits = tt; is = refl };
  ends = λ b bs others no. absurd cc;
}
kind_stops (n ∷ bytes) left e =
    let t = told_none (kind_of n) bytes left e in
    record {
      front = [];
      behind = n ∷ bytes;
      parts = refl;
      place = t.1;
      value = Request requests.Append;
      more = 1 ∷ [];
      begins = record { fits = tt; is = refl };
      ends = λ b bs others is. ap (λ o. told o others) (ap kind_of (sym (first_of is)) ∙ t.0);
    }
  where
    first_of : {b : ℕ} {bs : List ℕ} → n ∷ bytes ≡ b ∷ bs → n ≡ b
    first_of is = cc

pub kind_reader : IsReader KindSpelled record_kind_at
unfolding record_kind_at
kind_reader = record {
  value = Request requests.Append;
  text = 1 ∷ [];
  spelled = record { fits = tt; is = refl };
  takes = kind_takes;
  again = λ k front rest s. rw s.is (ap (λ o. told o rest) (kind_again k));
  stops = kind_stops;
}
