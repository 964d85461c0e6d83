-- The last line, piece by piece.
use Rattle.std.proofs.Common.{◌≡◌, ℕ, List, ◌++◌, codes, take, drop, sym, ◌∙◌, ap, subst, Option, append_assoc, take-append-drop}
use Rattle.std.specs.Io.KnownBytes.{Appends}
use Rattle.std.proofs.lemmas.List.Concat.{flat_map-append}
use Rattle.qm_node.specs.Ends.{TakesFront}
use Rattle.qm_cluster.proofs.Counting.{appends_on}
use Rattle.qm_node.proofs.Fronts.{front_of_prefix}
use Rattle.qm_history.specs.Common.{counted, TakesPrefix}
use Rattle.qm_history.specs.declared.turn.Turn.{Turn}
use Rattle.qm_cluster.specs.Printing.{name_at, words_of}
use Rattle.qm_cluster.proofs.Writing.{front_more, front_on}

module _ (names : List (List ℕ)) where
  -- the name of the node whose turn it was, behind a blank
  abbrev word_of : Turn → List ℕ
  word_of t = codes " " ++ name_at names t.node

  words-append : (front back : List Turn) → words_of names (front ++ back) ≡ words_of names front ++ words_of names back
  words-append front back = flat_map-append word_of front back

  module _ (turns : List Turn) (old : Option (List ℕ)) (before : ℕ) where
    -- the names of these turns were written but for the rest, and nothing failed
    pub record AreTold (rest : List Turn) (now : Option (List ℕ)) (faults : ℕ) : Type 0 where
      pub told : List Turn
      pub turns_are : told ++ rest ≡ turns
      pub took : Appends old now (words_of names told)
      pub quiet : faults ≡ before

    module _ (rest first behind : List Turn) (mid new : Option (List ℕ)) (between now : ℕ) (been : AreTold rest mid between) (count : ℕ) (front : first ≡ take count rest) (back : behind ≡ drop count rest) (piece : List ℕ)
        (words : piece ≡ words_of names first)
      where
        is : first ++ behind ≡ rest
        is = ap (λ (l : List Turn). l ++ behind) front ∙ ap (λ (l : List Turn). take count rest ++ l) back ∙ take-append-drop count rest

        -- the first ones of the rest were written too
        pub goes : Appends mid new piece → now ≡ between → AreTold behind new now
        goes took still = record {
          told = been.told ++ first;
          turns_are = append_assoc been.told first behind ∙ ap (λ (l : List Turn). been.told ++ l) is ∙ been.turns_are;
          took = subst (Appends old new) (sym (words-append been.told first)) (appends_on (words_of names been.told) (words_of names first) old mid new been.took (subst (Appends mid new) words took));
          quiet = still ∙ been.quiet;
        }

        -- the sink failed at them
        pub stops : TakesPrefix mid new piece → now ≡ counted between → TakesFront old new (words_of names turns) × (now ≡ counted before)
        stops some rose =
            let all : words_of names been.told ++ (words_of names first ++ words_of names behind) ≡ words_of names turns =
            ap (λ (l : List ℕ). words_of names been.told ++ l) (sym (words-append first behind) ∙ ap (words_of names) is) ∙ sym (words-append been.told rest) ∙ ap (words_of names) been.turns_are
            in (
              subst (TakesFront old new) all
                  (front_on old mid new (words_of names been.told) (words_of names first ++ words_of names behind) been.took
                  (front_more mid new (words_of names first) (words_of names behind) (front_of_prefix mid new piece (words_of names first) words some))),
              rose ∙ ap counted been.quiet,
            )
