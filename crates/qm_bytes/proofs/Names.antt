-- Names, as the code reads them.
use Rattle.std.proofs.Common.{◌≡◌, ℕ, suc, ◌+◌, ◌-◌, ◌<◌, ◌≤◌, Bool, true, false, not, ◌&&◌, None, Option, List, [], ◌∷◌, ◌++◌, length, take, drop, map, Result, Ok, Err, refl, sym, ap, ◌∙◌, arith, length-append, le-ltb, drop_at, length-drop, drop-drop}
use Rattle.std.specs.List.{list_all, position, position_or_len}
use Rattle.std.specs.Char.{to_ascii_uppercase}
use Rattle.std.proofs.lemmas.Bool.Decides.{nat_tests}
use Rattle.qm_kinds.specs.declared.fault.NameFault.{NameFault}
use Rattle.qm_kinds.specs.Text.{IsText, is_name_byte, text_of, text_unless}
use Rattle.qm_bytes.specs.Reading.{◌>>=◌, onward, pure, byte_where, between, repeat_at, name_bytes_at, name_at}
use Rattle.qm_bytes.specs.Spelling.{short_bytes, IsName}
use Rattle.qm_bytes.specs.Splitting.{IsAhead, IsInFront}
use Rattle.qm_bytes.proofs.Fields.{name_reader}

pub no_bytes : (count : ℕ) (bytes : List ℕ) → count ≡ 0 → name_bytes_at count bytes ≡ Ok (take count bytes, bytes)
unfolding name_bytes_at repeat_at
no_bytes count bytes e = rw e refl

pub first_byte : (count : ℕ) (bytes : List ℕ) → (count ≡ 0 → ⊥)
    → name_bytes_at count bytes ≡ onward (byte_where is_name_byte bytes) (λ first. name_bytes_at (count - 1) >>= λ others. pure (first ∷ others))
unfolding name_bytes_at repeat_at
first_byte count bytes h =
    let k : count ≡ suc (count - 1) = omega (arith, h) in
    ap (λ n. repeat_at (byte_where is_name_byte) n bytes) k

pub take_first : (count b : ℕ) (bytes : List ℕ) → (count ≡ 0 → ⊥) → take count (b ∷ bytes) ≡ b ∷ take (count - 1) bytes
take_first count b bytes h =
    let k : count ≡ suc (count - 1) = omega (arith, h) in
    ap (λ n. take n (b ∷ bytes)) k

small_enough : (b : ℕ) → is_name_byte b ≡ true → b < 97
small_enough b h = grind (arith, nat_tests)

stays : (b : ℕ) → is_name_byte b ≡ true → to_ascii_uppercase b ≡ b
stays b h = let small = small_enough b h in grind (arith, nat_tests)

and_left : (a b : Bool) → a && b ≡ true → a ≡ true
and_left true b h = refl
and_left false b h = absurd cc

and_right : (a b : Bool) → a && b ≡ true → b ≡ true
and_right true b h = h
and_right false b h = absurd cc

all_stay : (xs : List ℕ) → list_all is_name_byte xs ≡ true → map to_ascii_uppercase xs ≡ xs
all_stay [] h = refl
all_stay (x ∷ xs) h =
    let first = stays x (and_left _ _ h) in
    let others : map to_ascii_uppercase xs ≡ xs = all_stay xs (and_right _ _ h) in
    cc

none_bad : (xs : List ℕ) → list_all is_name_byte xs ≡ true
    → position_or_len (λ b. not (is_name_byte (to_ascii_uppercase b))) xs ≡ length xs
none_bad [] h = refl
none_bad (x ∷ xs) h =
    let first = stays x (and_left _ _ h) in
    let passes : is_name_byte (to_ascii_uppercase x) ≡ true = ap is_name_byte first ∙ and_left _ _ h in
    let others : position_or_len (λ b. not (is_name_byte (to_ascii_uppercase b))) xs ≡ length xs =
    none_bad xs (and_right _ _ h) in
    rw passes (ap (λ n. 1 + n) others ∙ omega arith)

unless_none : (bad : Option ℕ) (text : List ℕ) → bad ≡ None → 0 < length text → length text ≤ 39
    → map to_ascii_uppercase text ≡ text → text_unless bad text ≡ Ok text
unless_none bad text none some few same = first_of (grind (arith, nat_tests), grind arith)

pub read_again : (text : List ℕ) → IsText is_name_byte text → text_of is_name_byte text ≡ Ok text
read_again text h =
    let late = none_bad text h.lawful in
    let none : position (λ b. not (is_name_byte (to_ascii_uppercase b))) text ≡ None =
    rw late (rw (le-ltb (length text) (length text) (omega arith)) refl) in
    unless_none (position (λ b. not (is_name_byte (to_ascii_uppercase b))) text) text none h.some h.few (all_stay text h.lawful)

-- one more byte of a name
pub one_more : (count b : ℕ) (bytes rest behind : List ℕ) → (count ≡ 0 → ⊥) → bytes ≡ b ∷ rest
    → byte_where is_name_byte bytes ≡ Ok (b, rest) → name_bytes_at (count - 1) rest ≡ Ok (take (count - 1) rest, behind)
    → name_bytes_at count bytes ≡ Ok (take count bytes, behind)
one_more count b bytes rest behind some split first others =
    let taken : take count bytes ≡ b ∷ take (count - 1) rest = ap (take count) split ∙ take_first count b rest some in
    first_byte count bytes some ∙ rw (first, others, taken) refl

-- the bytes of a name behind its length
abbrev fine : List ℕ → Result (List ℕ) NameFault
fine x = Ok x

ok_name : (x y : List ℕ) → fine x ≡ fine y → x ≡ y
ok_name x y e = cc

pub is_found : (bytes text rest : List ℕ) (size : ℕ) → byte_where (between 1 39) bytes ≡ Ok (size, text)
    → name_bytes_at size text ≡ Ok (take size text, rest)
    → (name_at bytes ≡ Ok (take size text, rest)) × (text_of is_name_byte (take size text) ≡ Ok (take size text))
unfolding name_at
is_found bytes text rest size first others =
    let whole : name_at bytes ≡ Ok (take size text, rest) = rw first others in
    (whole, read_again (take size text) (name_reader.takes bytes (take size text) rest whole).1.fits)

pub is_read : (bytes text rest name : List ℕ) (size : ℕ) → byte_where (between 1 39) bytes ≡ Ok (size, text)
    → name_bytes_at size text ≡ Ok (take size text, rest) → Ok name ≡ text_of is_name_byte (take size text)
    → name_at bytes ≡ Ok (name, rest)
is_read bytes text rest name size first others read =
    let p = is_found bytes text rest size first others in
    let same : name ≡ take size text = ok_name name (take size text) (read ∙ p.1) in
    rw (p.0, same) refl

pub never_bad : (bytes text rest : List ℕ) (size : ℕ) (e : NameFault) → byte_where (between 1 39) bytes ≡ Ok (size, text)
    → name_bytes_at size text ≡ Ok (take size text, rest) → Err e ≡ text_of is_name_byte (take size text) → ⊥
never_bad bytes text rest size e first others read =
    let p = is_found bytes text rest size first others in
    let no : Err e ≡ Ok (take size text) = read ∙ p.1 in
    cc

-- a name that is found behind a place
pub name_found : (bytes rest : List ℕ) (at : ℕ) (name behind : List ℕ) → rest ≡ drop at bytes → at ≤ length bytes
    → name_at rest ≡ Ok (name, behind)
    → (drop at bytes ≡ short_bytes name ++ drop (at + 1 + length name) bytes) × (at + 1 + length name ≤ length bytes)
name_found bytes rest at name behind is within e =
    let t = name_reader.takes rest name behind e in
    let parts : rest ≡ short_bytes name ++ behind = t.2 ∙ ap (λ (x : List ℕ). x ++ behind) t.1.is in
    let len : length rest ≡ length bytes - at = ap length is ∙ length-drop at bytes in
    let long : length rest ≡ 1 + length name + length behind =
    ap length parts ∙ length-append (short_bytes name) behind ∙ omega arith in
    let last : drop (1 + length name) (drop at bytes) ≡ behind =
    ap (drop (1 + length name)) (sym is ∙ parts) ∙ drop_at (short_bytes name) behind (1 + length name) (omega arith) in
    let place : at + (1 + length name) ≡ at + 1 + length name = omega arith in
    let there : behind ≡ drop (at + 1 + length name) bytes =
    sym last ∙ drop-drop (1 + length name) at bytes ∙ ap (λ n. drop n bytes) place in
    (sym is ∙ parts ∙ ap (λ (x : List ℕ). short_bytes name ++ x) there, omega (arith, len, long, within))

fails_not : (left : ℕ) (read : Result (List ℕ × List ℕ) ℕ) (x : List ℕ × List ℕ) → read ≡ Err left → read ≡ Ok x → ⊥
fails_not left read x fails is = let both : Err left ≡ Ok x = sym fails ∙ is in cc

pub none_there : (bytes rest : List ℕ) (at left : ℕ) → rest ≡ drop at bytes → name_at rest ≡ Err left → (name more : List ℕ)
    → IsName name → drop at bytes ≡ short_bytes name ++ more → ⊥
none_there bytes rest at left is fails name more lawful parts =
    fails_not left (name_at rest) (name, more) fails (ap name_at (is ∙ parts) ∙ name_reader.again name (short_bytes name) more (record { fits = lawful; is = refl }))

-- a name that stands in front is found
pub front_found : (bytes name : List ℕ) → IsInFront name bytes → name_at bytes ≡ Ok (name, drop (length name + 1) bytes)
front_found bytes name front =
    ap name_at front.parts
    ∙ name_reader.again name (short_bytes name) (drop (length name + 1) bytes) (record { fits = front.lawful; is = refl })

drop_one_more : (count b : ℕ) (xs : List ℕ) → drop (count + 1) (b ∷ xs) ≡ drop count xs
drop_one_more count b xs = let more : count + 1 ≡ suc count = omega arith in ap (λ n. drop n (b ∷ xs)) more

-- a name behind its length is spelled
pub in_front : (size : ℕ) (name rest bytes : List ℕ) → bytes ≡ size ∷ rest → IsAhead size name rest → IsInFront name bytes
in_front size name rest bytes parts ahead =
    let whole : bytes ≡ short_bytes name ++ drop size rest =
    parts ∙ rw ahead.count_is (ap (λ (x : List ℕ). size ∷ x) ahead.parts) in
    let dropped : drop (length name + 1) bytes ≡ drop size rest = rw (parts, ahead.count_is) (drop_one_more size size rest) in
    record { parts = whole ∙ ap (λ (x : List ℕ). short_bytes name ++ x) (sym dropped); lawful = ahead.lawful }

pub front_within : (name bytes : List ℕ) → IsInFront name bytes → length name + 1 ≤ length bytes
front_within name bytes front =
    let whole : length bytes ≡ length (short_bytes name) + length (drop (length name + 1) bytes) =
    ap length front.parts ∙ length-append (short_bytes name) (drop (length name + 1) bytes) in
    omega (arith, whole)
