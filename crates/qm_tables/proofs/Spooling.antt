-- What becomes of the files that are kept, as callers see them.
use Rattle.std.proofs.Common.{◌≡◌, ◌∙◌, ℕ, suc, ◌+◌, ◌-◌, ◌<◌, ◌≤◌, ◌||◌, ◌&&◌, nat_lt, Bool, true, false, not, if◌then◌else◌, List, [], ◌∷◌, ◌++◌, length, get_or, map, take, drop, set, Option, Some, None, is_some, is_none, Ok, Err, vec_len, vec_capacity, refl, sym, ap, subst, arith, All, filter, insert, remove}
use Rattle.std.specs.Option.{option_map_or}
use Rattle.std.proofs.Math.Bool.{or-false}
use Rattle.std.proofs.Math.Seq.{map-set_same}
use Rattle.std.proofs.lemmas.List.{map-append, map-set, take-map, drop-map, get_or-map, length-map, length-set, length-append, append-nil, get_or-set_same}
use Rattle.std.proofs.lemmas.List.Edits.{length-insert, length-remove}
use Rattle.std.proofs.lemmas.List.Elements.{All-append, All-cons, All-tail, All-take, All-drop, All-set}
use Rattle.std.proofs.lemmas.List.Sums.{sum_by-set, sum_by-insert, sum_by-remove, sum_by_more_le}
use Rattle.qm_model.specs.Common.{FileName, File, file_name_cmp, same_file_name, file_named, IsInOrder, AreFiles, spooled, bytes_of, with_file, is_spool_full}
use Rattle.qm_model.proofs.RefusalLemmas.{at_most, or_false_left, or_false_right}
use Rattle.qm_keyed.specs.Places.{StandsAt, BelongsAt}
use Rattle.qm_keyed.proofs.Rows.{filter_at}
use Rattle.qm_keyed.proofs.Orders.{order_around, order_set, order_removed}
use Rattle.qm_keyed.proofs.Mapped.{order_unmapped, place_mapped}
use Rattle.qm_tables.specs.declared.spool.spooled.Spooled.{Spooled}
use Rattle.qm_tables.specs.Spool.{Counted, Kept, count_of, with_bytes}
use Rattle.qm_tables.specs.SpoolCounts.{SameCounts, IsCountedAs}
use Rattle.qm_tables.specs.SpoolRows.{file_of, naming_of, room_of, kept_of, AreSpooled, Replaces, IsExtended}
use Rattle.qm_tables.proofs.FileNames.{file_names_total, same_name}
use Rattle.qm_tables.proofs.NamedRows.{name_there, named_at, found_at, absent_at, file_set, file_inserted, counted, counted_name, count_at, count_absent, count_set, count_inserted, count_removed, itself}

abbrev pub spooled_name : Spooled → FileName
spooled_name f = f.name

abbrev pub file_key : File → FileName
file_key f = f.name

pub order_in : (items slice : List Spooled) (size : ℕ) → AreSpooled items size → slice ≡ items → IsInOrder file_name_cmp spooled_name slice
order_in items slice size spool same = subst (λ (s : List Spooled). IsInOrder file_name_cmp spooled_name s) (sym same) (order_unmapped file_name_cmp file_of file_key items spool.files.order)

-- some row, where there is one
pub some_row : (items : List Spooled) (i : ℕ) → i < length items → Spooled
some_row [] i within = absurd (omega (arith, within))
some_row (f ∷ items) i within = f

map_inserted : {X Y : Type 0} (v : X → Y) (xs : List X) (i : ℕ) (x : X) → map v (insert xs i x) ≡ insert (map v xs) i (v x)
map_inserted v xs i x = rw (take-map v i xs, drop-map v i xs) (map-append v (take i xs) (x ∷ drop i xs))

map_removed : {X Y : Type 0} (v : X → Y) (xs : List X) (i : ℕ) → map v (remove xs i) ≡ remove (map v xs) i
map_removed v xs i = rw (take-map v i xs, drop-map v (suc i) xs) (map-append v (take i xs) (drop (suc i) xs))

-- what is seen, by its parts
pub kept_is : (fs fs' : List File) (cs cs' rs rs' : List Counted) (k l : ℕ) → fs ≡ fs' → cs ≡ cs' → rs ≡ rs' → k ≡ l
    → let a : Kept = record { files = fs; counts = cs; rooms = rs; spare = k } in let b : Kept = record { files = fs'; counts = cs'; rooms = rs'; spare = l } in a ≡ b
kept_is fs fs' cs cs' rs rs' k l files counts rooms spare = λ t. record { files = files t; counts = counts t; rooms = rooms t; spare = spare t }

-- ---- where the file of a name stands

module _ (items : List Spooled) (name : FileName) (i : ℕ) (stands : StandsAt file_name_cmp spooled_name name items i) where
  pub file_stands : StandsAt file_name_cmp file_key name (map file_of items) i
  file_stands = place_mapped file_name_cmp file_of file_key items name (Ok i) stands

  naming_stands : StandsAt file_name_cmp counted_name name (map naming_of items) i
  naming_stands = place_mapped file_name_cmp naming_of counted_name items name (Ok i) stands

  room_stands : StandsAt file_name_cmp counted_name name (map room_of items) i
  room_stands = place_mapped file_name_cmp room_of counted_name items name (Ok i) stands

  pub file_found : (d : Spooled) → file_named name (map file_of items) ≡ Some (file_of (get_or items i d))
  file_found d = found_at file_key (map file_of items) name i (file_of d) file_stands ∙ ap (λ (f : File). Some f) (get_or-map file_of items i d (file_of d) stands.within)

  pub bytes_is : (d : Spooled) → bytes_of name (map file_of items) ≡ (get_or items i d).bytes.items
  bytes_is d = ap (λ (o : Option File). option_map_or (λ (f : File). f.bytes) o []) (file_found d)

  pub naming_is : (d : Spooled) → count_of name (map naming_of items) ≡ (get_or items i d).named
  naming_is d = count_at (map naming_of items) name i (naming_of d) naming_stands ∙ ap (λ (c : Counted). c.count) (get_or-map naming_of items i d (naming_of d) stands.within)

  pub room_is : (d : Spooled) → count_of name (map room_of items) ≡ vec_capacity (get_or items i d).bytes - vec_len (get_or items i d).bytes
  room_is d = count_at (map room_of items) name i (room_of d) room_stands ∙ ap (λ (c : Counted). c.count) (get_or-map room_of items i d (room_of d) stands.within)

  pub there : (d : Spooled) → is_some (file_named name (map file_of items)) ≡ true
  there d = ap is_some (file_found d)

  row_name : (d : Spooled) → (get_or items i d).name ≡ name
  row_name d = name_there spooled_name items name i d stands

  pub naming_read : (k : Kept) (spare : ℕ) (f : Spooled) → kept_of items spare ≡ k → f ≡ get_or items i f → count_of name k.counts ≡ f.named
  naming_read k spare f seen read = ap (λ (v : Kept). count_of name v.counts) (sym seen) ∙ naming_is f ∙ ap (λ (g : Spooled). g.named) (sym read)

  -- another number of entries names it
  module _ (n : ℕ) (ys : List Spooled) (is : (d : Spooled) → ys ≡ set items i (record (get_or items i d) { named = n })) where
    row : Spooled
    row = record (get_or items i (some_row items i stands.within)) { named = n }

    is_set : ys ≡ set items i row
    unfolding row
    is_set = is (some_row items i stands.within)

    pub renamed_files : map file_of ys ≡ map file_of items
    unfolding row
    renamed_files = ap (map file_of) is_set ∙ map-set_same file_of items i row (some_row items i stands.within) refl

    pub renamed_rooms : map room_of ys ≡ map room_of items
    unfolding row
    renamed_rooms = ap (map room_of) is_set ∙ map-set_same room_of items i row (some_row items i stands.within) refl

    pub renamed_counts : IsCountedAs name n (map naming_of items) (map naming_of ys)
    unfolding row
    renamed_counts = λ m.
        let f : Spooled = some_row items i stands.within in
        ap (λ (xs : List Spooled). count_of m (map naming_of xs)) is_set
        ∙ ap (count_of m) (map-set naming_of items i row ∙ ap (λ (x : FileName). set (map naming_of items) i (counted x n)) (row_name f))
        ∙ count_set name m n (map naming_of items) i naming_stands

    -- as callers see it, who see this before
    module _ (k : Kept) (spare : ℕ) (seen : kept_of items spare ≡ k) where
      pub recounted : (m : ℕ) → n ≡ m → IsCountedAs name m k.counts (map naming_of ys)
      recounted m same = λ q.
          renamed_counts q
          ∙ ap (λ (x : ℕ). if same_file_name name q then x else count_of q (map naming_of items)) same
          ∙ ap (λ (v : Kept). if same_file_name name q then m else count_of q v.counts) seen

      pub recounted_kept : (spare' : ℕ) → spare' ≡ spare → kept_of ys spare' ≡ record k { counts = map naming_of ys }
      recounted_kept spare' still =
          kept_is _ _ _ _ _ _ _ _
          (renamed_files ∙ ap (λ (v : Kept). v.files) seen) refl (renamed_rooms ∙ ap (λ (v : Kept). v.rooms) seen)
          (still ∙ ap (λ (v : Kept). v.spare) seen)

    pub renamed_spool : (size : ℕ) → AreSpooled items size → AreSpooled ys size
    renamed_spool size spool = record {
      files = subst (λ (fs : List File). AreFiles fs) (sym renamed_files) spool.files;
      counted = spool.counted ∙ ap spooled (sym renamed_files);
    }

  -- more bytes stand behind those of the file
  module _ (more : List ℕ) (ys : List Spooled) (r : Replaces items ys i (IsExtended more)) where
    extends : (d : Spooled) → IsExtended more (get_or items i d) r.file
    extends d = r.change d

    old : Spooled
    old = get_or items i (some_row items i stands.within)

    pub extended_counts : map naming_of ys ≡ map naming_of items
    extended_counts =
        let f : Spooled = some_row items i stands.within in
        ap (map naming_of) r.is
        ∙ map-set_same naming_of items i r.file f (λ t. record { name = (extends f).name t; count = (extends f).named t })

    file_extended : file_of r.file ≡ record { name = name; bytes = bytes_of name (map file_of items) ++ more }
    file_extended =
        let f : Spooled = some_row items i stands.within in
        λ t. record {
          name = ((extends f).name ∙ row_name f) t;
          bytes = ((extends f).bytes ∙ ap (λ (b : List ℕ). b ++ more) (sym (bytes_is f))) t;
        }

    files_set : map file_of ys ≡ set (map file_of items) i (record { name = name; bytes = bytes_of name (map file_of items) ++ more })
    files_set = ap (map file_of) r.is ∙ map-set file_of items i r.file ∙ ap (set (map file_of items) i) file_extended

    pub extended_files : map file_of ys ≡ with_bytes name more (map file_of items)
    extended_files =
        files_set
        ∙ sym (file_set (record { name = name; bytes = bytes_of name (map file_of items) ++ more }) (map file_of items) i file_stands.within file_stands.before (λ d. name_there file_key (map file_of items) name i d file_stands))

    pub extended_spool : (size : ℕ) → AreSpooled items size → length (bytes_of name (map file_of items)) + length more ≤ 1048576 → size + length more ≤ 67108864 → AreSpooled ys (size + length more)
    extended_spool size spool small limit =
        let files : List File = map file_of items in
        let new : File = record { name = name; bytes = bytes_of name files ++ more } in
        let d : Spooled = some_row items i stands.within in
        let long : length new.bytes ≡ length (bytes_of name files) + length more = length-append (bytes_of name files) more in
        let was : length (get_or files i (file_of d)).bytes ≡ length (bytes_of name files) = ap (λ (f : File). length f.bytes) (get_or-map file_of items i d (file_of d) stands.within) ∙ ap length (sym (bytes_is d)) in
        let grown = sum_by-set (λ (f : File). length f.bytes) files i new (file_of d) file_stands.within in
        let all : spooled (set files i new) ≡ size + length more = omega (arith, grown, long, was, spool.counted) in
        record {
          files = subst (λ (fs : List File). AreFiles fs) (sym files_set) (record {
            few = subst (λ (n : ℕ). n ≤ 4096) (sym (length-set files i new)) spool.files.few;
            each = All-set (λ (f : File). length f.bytes ≤ 1048576) files i new (omega (arith, long, small)) spool.files.each;
            total = omega (arith, all, limit);
            order = order_set file_names_total file_key files spool.files.order i new (file_of d) file_stands.within (sym (name_there file_key files name i (file_of d) file_stands));
          });
          counted = sym all ∙ ap spooled (sym files_set);
        }

    -- the room that the file has then
    pub extended_room : count_of name (map room_of ys) ≡ vec_capacity r.file.bytes - vec_len r.file.bytes
    extended_room =
        let f : Spooled = some_row items i stands.within in
        let k : ℕ = vec_capacity r.file.bytes - vec_len r.file.bytes in
        ap (λ (xs : List Spooled). count_of name (map room_of xs)) r.is
        ∙ ap (count_of name) (map-set room_of items i r.file ∙ ap (λ (x : FileName). set (map room_of items) i (counted x k)) ((extends f).name ∙ row_name f))
        ∙ count_set name name k (map room_of items) i room_stands
        ∙ ap (λ (b : Bool). if b then k else count_of name (map room_of items)) (itself name)

    pub room_made : (needed : ℕ) → ((d : Spooled) → vec_len (get_or ys i d).bytes + needed ≤ vec_capacity (get_or ys i d).bytes) → needed ≤ count_of name (map room_of ys)
    room_made needed room =
        let here : vec_len r.file.bytes + needed ≤ vec_capacity r.file.bytes =
        subst (λ (f : Spooled). vec_len f.bytes + needed ≤ vec_capacity f.bytes) (ap (λ (xs : List Spooled). get_or xs i r.file) r.is ∙ get_or-set_same items i r.file r.file stands.within) (room r.file) in
        omega (arith, here, extended_room)

  -- nothing is added
  pub same_files : (ys : List Spooled) → Replaces items ys i (IsExtended []) → map file_of ys ≡ map file_of items
  same_files ys r =
      let f : Spooled = some_row items i stands.within in
      ap (map file_of) r.is
      ∙ map-set_same file_of items i r.file f (λ t. record { name = (r.change f).name t; bytes = ((r.change f).bytes ∙ append-nil (get_or items i f).bytes.items) t })

  pub same_spool : (ys : List Spooled) (size : ℕ) → Replaces items ys i (IsExtended []) → AreSpooled items size → AreSpooled ys size
  same_spool ys size r spool = record {
    files = subst (λ (fs : List File). AreFiles fs) (sym (same_files ys r)) spool.files;
    counted = spool.counted ∙ ap spooled (sym (same_files ys r));
  }

  -- the file goes
  pub removed_files : map file_of (remove items i) ≡ filter (λ f. not (same_file_name f.name name)) (map file_of items)
  removed_files = map_removed file_of items i ∙ sym (filter_at (λ (f : File). same_file_name f.name name) (map file_of items) i (named_at file_key (map file_of items) name i file_stands))

  pub removed_counts : count_of name (map naming_of items) ≡ 0 → SameCounts (map naming_of items) (map naming_of (remove items i))
  removed_counts none = λ n. ap (count_of n) (map_removed naming_of items i) ∙ count_removed name n (map naming_of items) i naming_stands none

  pub within_size : (size : ℕ) (d : Spooled) → AreSpooled items size → length (get_or items i d).bytes.items ≤ size
  within_size size d spool =
      let part = sum_by-remove (λ (f : File). length f.bytes) (map file_of items) i (file_of d) file_stands.within in
      let was : length (get_or (map file_of items) i (file_of d)).bytes ≡ length (get_or items i d).bytes.items = ap (λ (f : File). length f.bytes) (get_or-map file_of items i d (file_of d) stands.within) in
      omega (arith, part, was, spool.counted)

  pub removed_spool : (size : ℕ) (d : Spooled) → AreSpooled items size → AreSpooled (remove items i) (size - length (get_or items i d).bytes.items)
  removed_spool size d spool =
      let files : List File = map file_of items in
      let part = sum_by-remove (λ (f : File). length f.bytes) files i (file_of d) file_stands.within in
      let was : length (get_or files i (file_of d)).bytes ≡ length (get_or items i d).bytes.items = ap (λ (f : File). length f.bytes) (get_or-map file_of items i d (file_of d) stands.within) in
      let fewer = length-remove files i file_stands.within in
      record {
        files = subst (λ (fs : List File). AreFiles fs) (sym (map_removed file_of items i)) (record {
          few = omega (arith, fewer, spool.files.few);
          each = All-append (λ (f : File). length f.bytes ≤ 1048576) (take i files) (drop (suc i) files) (All-take (λ (f : File). length f.bytes ≤ 1048576) i files spool.files.each) (All-drop (λ (f : File). length f.bytes ≤ 1048576) (suc i) files spool.files.each);
          total = omega (arith, part, spool.files.total);
          order = order_removed file_names_total file_key files spool.files.order i;
        });
        counted = let e : size - length (get_or items i d).bytes.items ≡ spooled (remove files i) = omega (arith, part, was, spool.counted) in e ∙ ap spooled (sym (map_removed file_of items i));
      }

-- ---- where a file of the name belongs

module _ (items : List Spooled) (name : FileName) (i : ℕ) (belongs : BelongsAt file_name_cmp spooled_name name items i) where
  pub file_belongs : BelongsAt file_name_cmp file_key name (map file_of items) i
  file_belongs = place_mapped file_name_cmp file_of file_key items name (Err i) belongs

  naming_belongs : BelongsAt file_name_cmp counted_name name (map naming_of items) i
  naming_belongs = place_mapped file_name_cmp naming_of counted_name items name (Err i) belongs

  room_belongs : BelongsAt file_name_cmp counted_name name (map room_of items) i
  room_belongs = place_mapped file_name_cmp room_of counted_name items name (Err i) belongs

  pub file_absent : file_named name (map file_of items) ≡ None
  file_absent = absent_at file_key (map file_of items) name i file_belongs

  pub bytes_none : bytes_of name (map file_of items) ≡ []
  bytes_none = ap (λ (o : Option File). option_map_or (λ (f : File). f.bytes) o []) file_absent

  pub naming_none : count_of name (map naming_of items) ≡ 0
  naming_none = count_absent (map naming_of items) name i naming_belongs

  pub not_there : is_some (file_named name (map file_of items)) ≡ true → ⊥
  not_there known =
      let gone : is_some (file_named name (map file_of items)) ≡ false = ap is_some file_absent in
      let clash : true ≡ false = sym known ∙ gone in
      cc

  module _ (g : Spooled) (named : g.name ≡ name) where
    inserted_is : map file_of (insert items i g) ≡ insert (map file_of items) i (record { name = name; bytes = g.bytes.items })
    inserted_is = map_inserted file_of items i g ∙ ap (λ (n : FileName). insert (map file_of items) i (record { name = n; bytes = g.bytes.items })) named

    pub inserted_files : map file_of (insert items i g) ≡ with_bytes name g.bytes.items (map file_of items)
    inserted_files =
        inserted_is
        ∙ sym (file_inserted (record { name = name; bytes = g.bytes.items }) (map file_of items) i file_belongs.within file_belongs.before file_belongs.behind)
        ∙ ap (λ (b : List ℕ). with_file (record { name = name; bytes = b ++ g.bytes.items }) (map file_of items)) (sym bytes_none)

    pub inserted_counts : g.named ≡ 0 → SameCounts (map naming_of items) (map naming_of (insert items i g))
    inserted_counts none = λ n.
        ap (count_of n) (map_inserted naming_of items i g ∙ (λ t. insert (map naming_of items) i (counted (named t) (none t))))
        ∙ count_inserted name n 0 (map naming_of items) i naming_belongs
        ∙ step n (same_file_name name n) refl
      where
        step : (n : FileName) (b : Bool) → same_file_name name n ≡ b → (if b then 0 else count_of n (map naming_of items)) ≡ count_of n (map naming_of items)
        step n true e = sym naming_none ∙ ap (λ (m : FileName). count_of m (map naming_of items)) (same_name name n e)
        step n false e = refl

    pub inserted_rooms : IsCountedAs name (vec_capacity g.bytes - vec_len g.bytes) (map room_of items) (map room_of (insert items i g))
    inserted_rooms = λ n.
        let k : ℕ = vec_capacity g.bytes - vec_len g.bytes in
        ap (count_of n) (map_inserted room_of items i g ∙ ap (λ (m : FileName). insert (map room_of items) i (counted m k)) named)
        ∙ count_inserted name n k (map room_of items) i room_belongs

    pub inserted_spool : (size : ℕ) → AreSpooled items size → length items < 4096 → length g.bytes.items ≤ 1048576 → size + length g.bytes.items ≤ 67108864 → AreSpooled (insert items i g) (size + length g.bytes.items)
    inserted_spool size spool few small limit =
        let files : List File = map file_of items in
        let new : File = record { name = name; bytes = g.bytes.items } in
        let count = length-map items file_of in
        let grown = sum_by-insert (λ (f : File). length f.bytes) files i new in
        let all : spooled (insert files i new) ≡ size + length g.bytes.items = omega (arith, grown, spool.counted) in
        let longer = length-insert files i new file_belongs.within in
        record {
          files = subst (λ (fs : List File). AreFiles fs) (sym inserted_is) (record {
            few = omega (arith, longer, count, few);
            each = All-append (λ (f : File). length f.bytes ≤ 1048576) (take i files) (new ∷ drop i files) (All-take (λ (f : File). length f.bytes ≤ 1048576) i files spool.files.each)
                (All-cons (λ (f : File). length f.bytes ≤ 1048576) new (drop i files) small (All-drop (λ (f : File). length f.bytes ≤ 1048576) i files spool.files.each));
            total = omega (arith, all, limit);
            order = order_around file_names_total file_key files spool.files.order i i new (omega arith) file_belongs.before file_belongs.behind;
          });
          counted = sym all ∙ ap spooled (sym inserted_is);
        }

-- ---- the limits

-- more bytes pass none
pub record IsWithin (name : FileName) (more : ℕ) (files : List File) : Type 0 where
  pub small : length (bytes_of name files) + more ≤ 1048576
  pub limit : spooled files + more ≤ 67108864
  pub few : is_none (file_named name files) ≡ true → length files ≤ 4095

pub within_limits : (name : FileName) (more : ℕ) (files : List File) → is_spool_full name more files ≡ false → IsWithin name more files
within_limits name more files fits =
    let large : Bool = nat_lt 1048576 (length (bytes_of name files) + more) in
    let much : Bool = nat_lt 67108864 (spooled files + more) in
    let many : Bool = is_none (file_named name files) && nat_lt 4095 (length files) in
    let sizes = or_false_left (large || much) many fits in
    let new = or_false_right (large || much) many fits in
    record {
      small = at_most 1048576 (length (bytes_of name files) + more) (or_false_left large much sizes);
      limit = at_most 67108864 (spooled files + more) (or_false_right large much sizes);
      few = λ is_new. at_most 4095 (length files) (ap (λ (b : Bool). b && nat_lt 4095 (length files)) (sym is_new) ∙ new);
    }

abbrev full_for : Option File → ℕ → List File → Bool
full_for o more files =
    nat_lt 1048576 (length (option_map_or (λ (f : File). f.bytes) o []) + more) || nat_lt 67108864 (spooled files + more)
    || (is_none o && nat_lt 4095 (length files))

module _ (items : List Spooled) (name : FileName) (i : ℕ) (more : ℕ) where
  pub full_there : (d : Spooled) → StandsAt file_name_cmp spooled_name name items i
      → (nat_lt 1048576 (length (get_or items i d).bytes.items + more) || nat_lt 67108864 (spooled (map file_of items) + more)) ≡ is_spool_full name more (map file_of items)
  full_there d stands =
      sym (or-false (nat_lt 1048576 (length (get_or items i d).bytes.items + more) || nat_lt 67108864 (spooled (map file_of items) + more)))
      ∙ ap (λ (o : Option File). full_for o more (map file_of items)) (sym (file_found items name i stands d))

  pub full_absent : BelongsAt file_name_cmp spooled_name name items i
      → (nat_lt 1048576 (0 + more) || nat_lt 67108864 (spooled (map file_of items) + more) || nat_lt 4095 (length (map file_of items))) ≡ is_spool_full name more (map file_of items)
  full_absent belongs = ap (λ (o : Option File). full_for o more (map file_of items)) (sym (file_absent items name i belongs))

  -- each file keeps to its limit
  pub small_there : (d : Spooled) (size : ℕ) → AreSpooled items size → i < length items → length (get_or items i d).bytes.items ≤ 1048576
  small_there d size spool within =
      let fit : length (get_or (map file_of items) i (file_of d)).bytes ≤ 1048576 = spool.files.each i (file_of d) (omega (arith, within, length-map items file_of)) in
      omega (arith, fit, ap (λ (f : File). length f.bytes) (get_or-map file_of items i d (file_of d) within))

-- ---- files that are read one by one

-- no entry names any of them
pub none_named : (items : List Spooled) (name : FileName) → All (λ f. f.named ≡ 0) items → count_of name (map naming_of items) ≡ 0
none_named [] name none = refl
none_named (f ∷ items) name none = step (same_file_name f.name name) refl (none_named items name (All-tail (λ (x : Spooled). x.named ≡ 0) f items none))
  where
    step : (b : Bool) → same_file_name f.name name ≡ b → count_of name (map naming_of items) ≡ 0 → count_of name (map naming_of (f ∷ items)) ≡ 0
    step true e rest = rw e (none 0 f (omega arith))
    step false e rest = rw e rest

-- the bytes so far and those of the next one
pub sized_more : (items : List Spooled) (i : ℕ) (f : Spooled) → i < length items → f ≡ get_or items i f → spooled (map file_of (take i items)) + length f.bytes.items ≤ spooled (map file_of items)
sized_more items i f within read =
    let part = sum_by_more_le (λ (x : File). length x.bytes) (map file_of items) i (file_of f) (omega (arith, within, length-map items file_of)) in
    let here : length (get_or (map file_of items) i (file_of f)).bytes ≡ length f.bytes.items = ap (λ (x : File). length x.bytes) (get_or-map file_of items i f (file_of f) within) ∙ ap (λ (x : Spooled). length x.bytes.items) (sym read) in
    let front : spooled (take i (map file_of items)) ≡ spooled (map file_of (take i items)) = ap spooled (take-map file_of i items) in
    omega (arith, part, here, front)
