-- What the two writes of an append make of a file of records, and what a crash leaves of them.
use Rattle.std.proofs.Common.{◌≡◌, ◌≢◌, inl, inr, refl, sym, ◌∙◌, ap, subst, ℕ, ◌+◌, ◌^◌, ◌<◌, ◌≤◌, min, List, [], ◌∷◌, ◌++◌, length, get_or, take, drop, arith, append_assoc, length-append, take-append-drop}
use Rattle.std.proofs.lemmas.List.{take_at, drop_at, drop_more}
use Rattle.std.proofs.lemmas.Bool.{cases_eq}
use Rattle.qm_disk.specs.Disk.{spliced, Torn}
use Rattle.qm_glog.specs.Records.{behind_gate, text, Fit, IsLog, IsBeforeOrAfter}
use Rattle.qm_glog.proofs.Texts.{length-behind_gate, text-push, Fit-push}

-- a record behind its gate, and a closed gate behind it
abbrev pub tail : List ℕ → List ℕ
tail body = behind_gate body ++ 0 ∷ []

pub length-tail : (body : List ℕ) → length (tail body) ≡ 5 + length body
length-tail body = omega (arith, length-append (behind_gate body) (0 ∷ []), length-behind_gate body)

-- the file with the record behind a gate, and a closed gate behind it
abbrev pub staged : List (List ℕ) → List ℕ → ℕ → List ℕ → List ℕ
staged bodies body gate rest = text bodies ++ gate ∷ (behind_gate body ++ 0 ∷ rest)

module _ (bodies : List (List ℕ)) (fit : Fit bodies) (end : ℕ) (is : end ≡ length (text bodies)) (body : List ℕ) (small : length body < 2 ^ 32) where
  module _ (file : List ℕ) (gate : ℕ) (rest : List ℕ) (shut : gate ≢ 1) (whole : file ≡ text bodies ++ gate ∷ rest) where
    front_length : length (text bodies ++ gate ∷ []) ≡ end + 1
    front_length = omega (arith, length-append (text bodies) (gate ∷ []), is)

    regrouped : file ≡ (text bodies ++ gate ∷ []) ++ rest
    regrouped = whole ∙ sym (append_assoc (text bodies) (gate ∷ []) rest)

    pub room : end + 1 ≤ length file
    room = omega (arith, ap (λ (l : List ℕ). length l) regrouped, length-append (text bodies ++ gate ∷ []) rest, front_length)

    front : take (end + 1) file ≡ text bodies ++ gate ∷ []
    front = ap (λ (l : List ℕ). take (end + 1) l) regrouped ∙ take_at (text bodies ++ gate ∷ []) rest (end + 1) front_length

    -- the closed gate stands in each outcome of the first write
    pub torn_behind : (n : ℕ) (c : List ℕ) → Torn (end + 1) n file c → IsLog c bodies
    torn_behind n c torn =
        let within : min (end + 1) (length file) ≡ end + 1 = omega (arith, room) in
        let same : take (end + 1) c ≡ text bodies ++ gate ∷ [] = subst (λ (k : ℕ). take k c ≡ take k file) within torn.before ∙ front in
        record {
          gate = gate;
          rest = drop (end + 1) c;
          whole = sym (take-append-drop (end + 1) c) ∙ ap (λ (l : List ℕ). l ++ drop (end + 1) c) same ∙ append_assoc (text bodies) (gate ∷ []) (drop (end + 1) c);
          shut = shut;
          fit = fit;
        }

    pub written_behind : spliced (end + 1) (tail body) file ≡ staged bodies body gate (drop (end + 1 + length (tail body)) file)
    written_behind =
        let r : List ℕ = drop (end + 1 + length (tail body)) file in
        ap (λ (l : List ℕ). l ++ tail body ++ r) front
        ∙ append_assoc (text bodies ++ gate ∷ []) (tail body) r
        ∙ append_assoc (text bodies) (gate ∷ []) (tail body ++ r)
        ∙ ap (λ (l : List ℕ). text bodies ++ gate ∷ l) (append_assoc (behind_gate body) (0 ∷ []) r)

  pub after_gate : (rest : List ℕ) → IsLog (staged bodies body 1 rest) (bodies ++ body ∷ [])
  after_gate rest = record {
    gate = 0;
    rest = rest;
    whole = sym (text-push bodies body (0 ∷ rest));
    shut = omega arith;
    fit = Fit-push bodies body fit small;
  }

  -- the record counts or it doesn't, by its gate
  pub by_gate : (gate : ℕ) (rest : List ℕ) → IsBeforeOrAfter bodies body (staged bodies body gate rest)
  by_gate gate rest = elim (cases_eq gate 1) [
    | inl opened ↦ inr (subst (λ (g : ℕ). IsLog (staged bodies body g rest) (bodies ++ body ∷ [])) (sym opened) (after_gate rest))
    | inr shut ↦ inl (record { gate = gate; rest = behind_gate body ++ 0 ∷ rest; whole = refl; shut = shut; fit = fit })
  ]

  module _ (gate : ℕ) (rest : List ℕ) where
    behind : List ℕ
    behind = behind_gate body ++ 0 ∷ rest

    back : drop (end + 1) (staged bodies body gate rest) ≡ behind_gate body ++ 0 ∷ rest
    back =
        ap (λ (l : List ℕ). drop (end + 1) l) (sym (append_assoc (text bodies) (gate ∷ []) (behind_gate body ++ 0 ∷ rest)))
        ∙ drop_at (text bodies ++ gate ∷ []) (behind_gate body ++ 0 ∷ rest) (end + 1) (omega (arith, length-append (text bodies) (gate ∷ []), is))

    pub length-staged : length (staged bodies body gate rest) ≡ end + 1 + (4 + length body) + (1 + length rest)
    length-staged = omega (arith, is, length-append (text bodies) (gate ∷ (behind_gate body ++ 0 ∷ rest)), length-append (behind_gate body) (0 ∷ rest), length-behind_gate body)

    -- the record stands whole in each outcome of the second write
    pub torn_gate : (c : List ℕ) → Torn end 1 (staged bodies body gate rest) c → IsBeforeOrAfter bodies body c
    torn_gate c torn =
        let within : min end (length (staged bodies body gate rest)) ≡ end = omega (arith, length-staged) in
        let same : take end c ≡ text bodies =
        subst (λ (k : ℕ). take k c ≡ take k (staged bodies body gate rest)) within torn.before
        ∙ take_at (text bodies) (gate ∷ (behind_gate body ++ 0 ∷ rest)) end (sym is) in
        let g : ℕ = get_or c end 0 in
        let long : end < length c = omega (arith, torn.no_shorter, length-staged) in
        let from_gate : drop end c ≡ g ∷ (behind_gate body ++ 0 ∷ rest) =
        drop_more c end 0 long ∙ ap (λ (l : List ℕ). g ∷ l) (torn.after ∙ back) in
        let whole : c ≡ staged bodies body g rest =
        sym (take-append-drop end c) ∙ ap (λ (l : List ℕ). l ++ drop end c) same ∙ ap (λ (l : List ℕ). text bodies ++ l) from_gate in
        subst (IsBeforeOrAfter bodies body) (sym whole) (by_gate g rest)

    pub written_gate : spliced end (1 ∷ []) (staged bodies body gate rest) ≡ staged bodies body 1 rest
    written_gate =
        ap (λ (l : List ℕ). l ++ (1 ∷ []) ++ drop (end + 1) (staged bodies body gate rest)) (take_at (text bodies) (gate ∷ (behind_gate body ++ 0 ∷ rest)) end (sym is))
        ∙ ap (λ (l : List ℕ). text bodies ++ (1 ∷ []) ++ l) back
        ∙ append_assoc (text bodies) (1 ∷ []) (behind_gate body ++ 0 ∷ rest)
