-- The rows with which a queue file begins, and what it means that one isn't there.
use Rattle.std.proofs.Common.{◌≡◌, ℕ, suc, ◌+◌, ◌<◌, ◌≤◌, List, [], ◌∷◌, ◌++◌, length, map, take, drop, get_or, Bool, true, false, eqb, ltb, Option, Some, Result, Ok, Err, refl, sym, ap, subst, ◌∙◌, arith, add-one, lit<, lit≤, zero, IfOk, option_map}
use Rattle.std.specs.List.{AllByRecursion, slice_get}
use Rattle.std.proofs.lemmas.List.{take-append-drop, take_more_same, length-take, append-nil}
use Rattle.std.proofs.lemmas.List.Elements.{All-from_recursion}
use Rattle.std.specs.Cmp.Lexicographic.{pointwise}
use Rattle.std.proofs.lemmas.Bool.Decides.{nat_tests, Decides-eqb}
use Rattle.std.proofs.lemmas.Slice.Eq.{slice_eq-Decides}
use Rattle.std.proofs.lemmas.Option.{slice_get_within, get_or_from_slice_get, slice_get-map, slice_get_read}
use Rattle.qm_history.specs.Common.{Body, Record, Node, System, AreNodes, HasSpelling, record_text, IsRecord}
use Rattle.qm_model.specs.Log.{row, head_of, image_of}
use Rattle.qm_restore.specs.Site.{new_system, new_rows}
use Rattle.qm_restore.specs.QueueFile.{IsFileFrom, IsSiteFile, Begins, IsFirstUnlawful}
use Rattle.qm_restore.specs.Restoring.{OfBody, named_by, Names, NamesNone, IsOf, BeginsWithRows, Judges, IsRead, IsUnreadableAt, IsFirst}
use Rattle.qm_restore.specs.declared.fault.RestoreFault.{RestoreFault}
use Rattle.qm_restore.specs.declared.fault.RestoreFault.TheVariants.{Unlawful, NoMemory}
use Rattle.qm_restore.specs.declared.fault.Flaw.TheVariants.{Unreadable, NoRow, Refused}
use Rattle.qm_restore.proofs.FirstRows.{rows_fit, named_fit}

-- the first row of a new site of these nodes
abbrev pub head_row : List Node → Record
head_row nodes = row (head_of (new_system nodes))

-- the rows of a system alone
first_file : (first : System) → AllByRecursion HasSpelling (image_of first) → IsFileFrom first (map record_text (image_of first)) first
first_file first fit = record {
  requests = [];
  fit = subst (AllByRecursion HasSpelling) (sym (append-nil (image_of first))) fit;
  spelled = ap (λ (rs : List Record). map record_text rs) (sym (append-nil (image_of first)));
  lead = record { stand = tt; leave = refl };
}

pub new_site_file : (nodes : List Node) → AreNodes nodes → AllByRecursion HasSpelling (new_rows nodes) → IsSiteFile (map record_text (new_rows nodes)) (new_system nodes)
new_site_file nodes proper fit = record {
  first = new_system nodes;
  is_new = record { nodes = nodes; proper = proper; is = refl };
  file = first_file (new_system nodes) fit;
}

-- a queue file begins with the rows of a new site
pub begins_new : (bodies : List (List ℕ)) (s : System) (f : IsSiteFile bodies s) → IsFileFrom (new_system f.is_new.nodes) bodies s
begins_new bodies s f = subst (λ (t : System). IsFileFrom t bodies s) f.is_new.is f.file

-- a node that a site can have
abbrev some_nodes : List Node
some_nodes = record { name = 65 ∷ []; up = true } ∷ []

some_nodes_proper : AreNodes some_nodes
some_nodes_proper = record {
  some = lit< tt;
  few = lit≤ tt;
  short = All-from_recursion (λ (n : Node). length n.name ≤ 6) some_nodes (lit≤ tt, tt);
  distinct = λ i j d below within. absurd (omega (arith, below, within));
}

-- there is a queue file
some_file : Begins []
some_file = record {
  more = map record_text (new_rows some_nodes);
  system = new_system some_nodes;
  is = new_site_file some_nodes some_nodes_proper (rows_fit some_nodes (lit< tt) (lit< tt) (record { some = omega arith; few = omega arith; lawful = refl }, tt));
}

same_first : (a b : List ℕ) (xs ys : List (List ℕ)) → a ∷ xs ≡ b ∷ ys → a ≡ b
same_first a b xs ys h = cc

not_empty : (b : List ℕ) (bs : List (List ℕ)) → [] ≡ b ∷ bs → ⊥
not_empty b bs h = cc

-- ---- the first record

-- what the first row of a site names are its nodes
names_its_nodes : (r : Record) (nodes : List Node) → r ≡ head_row nodes → named_by r.body ≡ nodes
names_its_nodes r nodes same = ap (λ (x : Record). named_by x.body) same

-- the first row of a site that is read names them
pub spelled_nodes_fit : (r : Record) → HasSpelling r → AreNodes (named_by r.body) → AllByRecursion HasSpelling (new_rows (named_by r.body))
spelled_nodes_fit r fits proper = rows_fit (named_by r.body) proper.some (omega (arith, proper.few)) (named_fit r.body fits.body_fits)

pub is_of : (bodies : List (List ℕ)) (r : Record) (nodes : List Node) → 0 < length bodies → AreNodes nodes → AllByRecursion HasSpelling (new_rows nodes) → named_by r.body ≡ nodes
    → OfBody bodies 0 (λ body. (other : Record) → HasSpelling other → body ≡ record_text other → r ≡ other)
    → IsOf bodies nodes
is_of [] r nodes some proper fit named only = absurd (omega arith)
is_of (first ∷ behind) r nodes some proper fit named only = record {
  proper = proper;
  fit = fit;
  first = first;
  others = behind;
  are = refl;
  only = λ others more s f.
      let same = only first refl (head_row others) f.fit.0 (same_first first _ more _ f.spelled) in
      sym (names_its_nodes r others same) ∙ named;
}

pub first_is_unlawful : (bodies : List (List ℕ))
    → ((body : List ℕ) (nodes : List Node) → slice_get bodies 0 ≡ Some body → AreNodes nodes → HasSpelling (head_row nodes) → body ≡ record_text (head_row nodes) → ⊥)
    → IsFirstUnlawful bodies 0
first_is_unlawful [] not = record {
  within = omega arith;
  begins = some_file;
  ends = λ within g. absurd (omega (arith, within));
  unfinished = λ end s f. not_empty _ _ (begins_new [] s f).spelled;
}
first_is_unlawful (first ∷ others) not = record {
  within = omega arith;
  begins = some_file;
  ends = λ within g.
      let f = begins_new _ g.system g.is in
      not first g.is.is_new.nodes refl g.is.is_new.proper f.fit.0 (same_first first _ g.more _ f.spelled);
  unfinished = λ end s f. absurd (omega (arith, end));
}

-- ---- the other rows

-- one more record is the same in both
pub one_more_same : (xs ys : List (List ℕ)) (i : ℕ) (x : List ℕ) → slice_get xs i ≡ Some x → slice_get ys i ≡ Some x → take i xs ≡ take i ys → take (i + 1) xs ≡ take (i + 1) ys
one_more_same xs ys i x in_xs in_ys same =
    take_more_same xs ys i [] (slice_get_within xs i x in_xs) (slice_get_within ys i x in_ys) same
    (get_or_from_slice_get xs i x [] in_xs ∙ sym (get_or_from_slice_get ys i x [] in_ys))

-- what stands in a front stands in the whole
slice_get_front : (xs more : List (List ℕ)) (i : ℕ) → i < length xs → slice_get (xs ++ more) i ≡ slice_get xs i
slice_get_front [] more i lt = absurd (omega arith)
slice_get_front (x ∷ xs) more zero lt = refl
slice_get_front (x ∷ xs) more (suc i) lt = slice_get_front xs more i (omega arith)

slice_get_take : (xs : List (List ℕ)) (n i : ℕ) → i < n → slice_get (take n xs) i ≡ slice_get xs i
slice_get_take xs zero i lt = absurd (omega arith)
slice_get_take [] (suc n) i lt = refl
slice_get_take (x ∷ xs) (suc n) zero lt = refl
slice_get_take (x ∷ xs) (suc n) (suc i) lt = slice_get_take xs n i (omega arith)

-- the spelling of a row of a new site
pub row_text_at : (rows : List Record) (nodes : List Node) (index : ℕ) (row : Record) → rows ≡ new_rows nodes → index < length rows → row ≡ get_or rows index row
    → slice_get (map record_text (new_rows nodes)) index ≡ Some (record_text row)
row_text_at rows nodes index row same within is =
    ap (λ (l : List Record). slice_get (map record_text l) index) (sym same) ∙ slice_get-map record_text rows index
    ∙ ap (λ (o : Option Record). option_map record_text o) (slice_get_read rows (length rows) index row refl within is)

-- where a queue file of these nodes begins with some records, and this is the next, it is the row of this index
next_is_row : (bodies more : List (List ℕ)) (s : System) (nodes : List Node) (index : ℕ) → index < 3 → index < length bodies
    → IsFileFrom (new_system nodes) (take (index + 1) bodies ++ more) s
    → slice_get bodies index ≡ slice_get (map record_text (new_rows nodes)) index
next_is_row bodies more s nodes index below within f =
    let long : index < length (take (index + 1) bodies) = omega (arith, length-take (index + 1) bodies) in
    let rows : index < length (map record_text (new_rows nodes)) = omega arith in
    sym (slice_get_take bodies (index + 1) index (omega arith))
    ∙ sym (slice_get_front (take (index + 1) bodies) more index long)
    ∙ ap (λ (l : List (List ℕ)). slice_get l index) f.spelled
    ∙ slice_get_front (map record_text (new_rows nodes)) (map record_text f.requests) index rows

-- a queue file that begins with the first of these records is of these nodes
pub of_front : (bodies : List (List ℕ)) (nodes : List Node) → IsOf bodies nodes → (index : ℕ) (more : List (List ℕ)) (s : System) (others : List Node)
    → IsFileFrom (new_system others) (take (index + 1) bodies ++ more) s → others ≡ nodes
of_front bodies nodes of index more s others f =
    let begins : take (index + 1) bodies ++ more ≡ of.first ∷ (take index of.others ++ more) =
    ap (λ (l : List (List ℕ)). take (index + 1) l ++ more) of.are ∙ ap (λ (n : ℕ). take n (of.first ∷ of.others) ++ more) (add-one index) in
    of.only others (take index of.others ++ more) s (subst (λ (l : List (List ℕ)). IsFileFrom (new_system others) l s) begins f)

pub row_is_unlawful : (bodies : List (List ℕ)) (nodes : List Node) (row : List ℕ) (index : ℕ) → IsOf bodies nodes
    → index ≤ length bodies → take index bodies ≡ take index (map record_text (new_rows nodes))
    → slice_get (map record_text (new_rows nodes)) index ≡ Some row → (slice_get bodies index ≡ Some row → ⊥) → IsFirstUnlawful bodies index
row_is_unlawful bodies nodes row index of within same is_row not =
    let rows = map record_text (new_rows nodes) in
    let below : index < 3 = slice_get_within (map record_text (new_rows nodes)) index row is_row in
    record {
      within = within;
      begins = record {
        more = drop index rows;
        system = new_system nodes;
        is = subst (λ (l : List (List ℕ)). IsSiteFile l (new_system nodes)) (sym (ap (λ (l : List (List ℕ)). l ++ drop index (map record_text (new_rows nodes))) same ∙ take-append-drop index (map record_text (new_rows nodes)))) (new_site_file nodes of.proper of.fit);
      };
      ends = λ inside g.
          let whole = begins_new (take (index + 1) bodies ++ g.more) g.system g.is in
          let f = subst (λ (ns : List Node). IsFileFrom (new_system ns) (take (index + 1) bodies ++ g.more) g.system)
          (of_front bodies nodes of index g.more g.system g.is.is_new.nodes whole) whole in
          not (next_is_row bodies g.more g.system nodes index below inside f ∙ is_row);
      unfinished = λ end s f.
          let lengths = ap (λ (l : List (List ℕ)). length l) (begins_new bodies s f).spelled in
          absurd (omega (arith, below, end, lengths));
    }

pub row_within : (nodes : List Node) (row : List ℕ) (index : ℕ) → slice_get (map record_text (new_rows nodes)) index ≡ Some row → index < 3
row_within nodes row index is_row = slice_get_within (map record_text (new_rows nodes)) index row is_row

pub rows_begin : (bodies : List (List ℕ)) (nodes : List Node) → IsOf bodies nodes
    → take 3 bodies ≡ map record_text (new_rows nodes) → BeginsWithRows bodies nodes
rows_begin bodies nodes of same =
    let whole = sym (take-append-drop 3 bodies) ∙ ap (λ (l : List (List ℕ)). l ++ drop 3 bodies) same in
    record {
      proper = of.proper;
      fit = of.fit;
      rest = drop 3 bodies;
      rows = whole;
      only = λ others more s f.
          let first : of.first ≡ record_text (head_row nodes) = same_first _ _ _ _ (sym of.are ∙ whole) in
          of.only others (drop 1 (map record_text (new_rows nodes)) ++ more) s
          (subst (λ (b : List ℕ). IsFileFrom (new_system others) (b ∷ (drop 1 (map record_text (new_rows nodes)) ++ more)) s) (sym first) f);
    }

-- ---- how the first record is judged

pub none_is_unlawful : (bodies : List (List ℕ)) → length bodies ≡ 0 → IsFirstUnlawful bodies 0
none_is_unlawful bodies empty = first_is_unlawful bodies (λ body nodes is proper spelled same. absurd (omega (arith, empty, slice_get_within bodies 0 body is)))

-- a first record that names no nodes of a site
pub unnamed_is_unlawful : (bodies : List (List ℕ)) (r : Record) → (AreNodes (named_by r.body) → ⊥)
    → OfBody bodies 0 (λ body. (other : Record) → HasSpelling other → body ≡ record_text other → r ≡ other)
    → IsFirstUnlawful bodies 0
unnamed_is_unlawful bodies r unnamed only = first_is_unlawful bodies (λ body nodes is proper spelled same.
    let named : named_by r.body ≡ nodes = names_its_nodes r nodes (only body is (head_row nodes) spelled same) in
    unnamed (subst AreNodes (sym named) proper))

pub unnamed_is_judged : (bodies : List (List ℕ)) (r : Record) (fault : RestoreFault)
    → OfBody bodies 0 (λ body. (other : Record) → HasSpelling other → body ≡ record_text other → r ≡ other)
    → NamesNone r.body fault → Judges bodies fault
unnamed_is_judged bodies r (Unlawful index Unreadable) only none = absurd none
unnamed_is_judged bodies r (Unlawful index NoRow) only none =
    (subst (IsFirstUnlawful bodies) (sym none.0) (unnamed_is_unlawful bodies r none.1 only), omega (arith, none.0))
unnamed_is_judged bodies r (Unlawful index Refused) only none = absurd none
unnamed_is_judged bodies r NoMemory only none = tt

pub unnamed_is_first : (body : Body) (fault : RestoreFault) → NamesNone body fault → IsFirst fault
unnamed_is_first body (Unlawful index Unreadable) none = absurd none
unnamed_is_first body (Unlawful index NoRow) none = none.0
unnamed_is_first body (Unlawful index Refused) none = absurd none
unnamed_is_first body NoMemory none = tt

-- a first record that names nodes of a site
pub of_named : (bodies : List (List ℕ)) (r : Record) (nodes : List Node) → 0 < length bodies → HasSpelling r
    → OfBody bodies 0 (λ body. (other : Record) → HasSpelling other → body ≡ record_text other → r ≡ other)
    → Names r.body nodes → IsOf bodies nodes
of_named bodies r nodes some fits only named =
    subst (λ (ns : List Node). IsOf bodies ns) (sym named.0) (is_of bodies r (named_by r.body) some named.1 (spelled_nodes_fit r fits named.1) refl only)

pub if_ok : {X E : Type 0} {P Q : X → Type 0} (result : Result X E) → ((x : X) → P x → Q x) → IfOk result P → IfOk result Q
if_ok (Ok x) step holds = step x holds
if_ok (Err e) step holds = tt

no_record : (body : List ℕ) → ((other : Record) → HasSpelling other → body ≡ record_text other → ⊥) → IsRecord body → ⊥
no_record body none is = none is.value is.spells.fits is.spells.is

row_not_unreadable : NoRow ≡ Unreadable → ⊥
row_not_unreadable h = cc

refused_not_unreadable : Refused ≡ Unreadable → ⊥
refused_not_unreadable h = cc

-- a first record that can't be read
pub unread_is_judged : (bodies : List (List ℕ)) (body : List ℕ) (fault : RestoreFault) → slice_get bodies 0 ≡ Some body → IsUnreadableAt 0 fault
    → OfBody bodies 0 (λ body. (other : Record) → HasSpelling other → body ≡ record_text other → IsRead other (Err fault))
    → Judges bodies fault
unread_is_judged bodies body (Unlawful index Unreadable) there place only = (
  subst (IsFirstUnlawful bodies) (sym place.0) (first_is_unlawful bodies (λ body nodes is proper spelled same. only body is (head_row nodes) spelled same)),
  (body, subst (λ (i : ℕ). slice_get bodies i ≡ Some body) (sym place.0) there, no_record body (only body there)),
)
unread_is_judged bodies body (Unlawful index NoRow) there place only = absurd (row_not_unreadable place.1)
unread_is_judged bodies body (Unlawful index Refused) there place only = absurd (refused_not_unreadable place.1)
unread_is_judged bodies body NoMemory there place only = tt

-- it is the first record that is told then
pub is_first : (fault : RestoreFault) → IsUnreadableAt 0 fault → IsFirst fault
is_first (Unlawful index flaw) place = place.0
is_first NoMemory place = tt

pub rows_end : (bodies : List (List ℕ)) (nodes : List Node) (index : ℕ) → index ≡ 3 → take index bodies ≡ take index (map record_text (new_rows nodes)) → take 3 bodies ≡ map record_text (new_rows nodes)
rows_end bodies nodes index three same = subst (λ (n : ℕ). take n bodies ≡ take n (map record_text (new_rows nodes))) three same

-- ---- comparing a body

pub not_both : (b : Bool) → b ≡ true → b ≡ false → ⊥
not_both b holds fails = cc

pub not_below : (a b : ℕ) → b ≤ a → ltb a b ≡ false
not_below a b le = grind (arith, nat_tests)

pub same_some : (a b : List ℕ) → Some a ≡ Some b → a ≡ b
same_some a b h = cc

pub no_body_there : (bodies : List (List ℕ)) (index : ℕ) (wanted : List ℕ) (found : Bool) → length bodies ≤ index → found ≡ false
    → (found ≡ true → slice_get bodies index ≡ Some wanted) × (slice_get bodies index ≡ Some wanted → found ≡ true)
no_body_there bodies index wanted found past missing =
    (λ holds. absurd (not_both found holds missing), λ there. absurd (omega (arith, past, slice_get_within bodies index wanted there)))

pub body_is : (bodies : List (List ℕ)) (index : ℕ) (body text wanted : List ℕ) (found : Bool) → slice_get bodies index ≡ Some body → text ≡ wanted → found ≡ pointwise eqb body text
    → (found ≡ true → slice_get bodies index ≡ Some wanted) × (slice_get bodies index ≡ Some wanted → found ≡ true)
body_is bodies index body text wanted found there is told =
    let decides = slice_eq-Decides Decides-eqb body text found told in (
      λ holds. there ∙ ap (λ (b : List ℕ). Some b) (decides.0 holds ∙ is),
      λ other. decides.1 (same_some body text (sym there ∙ other ∙ ap (λ (b : List ℕ). Some b) (sym is))),
    )
