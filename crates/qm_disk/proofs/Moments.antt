-- How a run of calls goes on: lemmas for whoever calls a disk more than once.
use Rattle.std.proofs.Common.{refl, sym, inl, inr, subst, ⊎_elim, ◌∙◌, arith, ◌≡◌, ◌≤◌, ℕ, List}
use Rattle.std.proofs.lemmas.Bool.{cases_eq}
use Rattle.qm_disk.specs.Disk.{Meaning, CrashState, IsLeft, OthersLeft, KeepsOthers, KeepsAll, Elapses, LeavesOnly, OnlyLooks, ChangesOnly}

module _ {D : Type 0} (m : Meaning D) where
  -- before the first call
  pub started : (old : D) (P : CrashState → Type 0) → ((crashed : CrashState) → m.left_since old (m.moment old) crashed → P crashed) → LeavesOnly m old old P
  started old P here = record { later = omega arith; each = here; before = λ t crashed le left. inl left }

  -- one call more, after which a crash leaves what has P
  pub goes_on : (old mid new : D) (P : CrashState → Type 0) → LeavesOnly m old mid P → Elapses m mid new → ((crashed : CrashState) → IsLeft (m.may_leave new) crashed → P crashed) → LeavesOnly m old new P
  goes_on old mid new P so_far time here = record {
    later = omega (arith, so_far.later, time.later);
    each = λ crashed left. ⊎_elim (so_far.each crashed) (here crashed) (time.nothing_else (m.moment old) crashed so_far.later left);
    before = λ t crashed le left. ⊎_elim (so_far.before t crashed le) (λ now. inr (here crashed now)) (time.nothing_else t crashed (omega (arith, le, so_far.later)) left);
  }

  -- the same with a weaker fact
  pub weaker : (old new : D) (P Q : CrashState → Type 0) → LeavesOnly m old new P → ((crashed : CrashState) → P crashed → Q crashed) → LeavesOnly m old new Q
  weaker old new P Q run then_ = record {
    later = run.later;
    each = λ crashed left. then_ crashed (run.each crashed left);
    before = λ t crashed le left. ⊎_elim (λ past. inl past) (λ p. inr (then_ crashed p)) (run.before t crashed le left);
  }

  -- a run of calls more
  pub goes_further : (old mid new : D) (P Q : CrashState → Type 0) → LeavesOnly m old mid P → LeavesOnly m mid new Q → ((crashed : CrashState) → Q crashed → P crashed) → LeavesOnly m old new P
  goes_further old mid new P Q so_far then_ weaker = record {
    later = omega (arith, so_far.later, then_.later);
    each = λ crashed left. ⊎_elim (so_far.each crashed) (weaker crashed) (then_.before (m.moment old) crashed so_far.later left);
    before = λ t crashed le left. ⊎_elim (so_far.before t crashed le) (λ q. inr (weaker crashed q)) (then_.before t crashed (omega (arith, le, so_far.later)) left);
  }

  -- what a crash leaves after the run
  pub holds_now : (old new : D) (P : CrashState → Type 0) → LeavesOnly m old new P
      → ((t : ℕ) (crashed : CrashState) → t ≤ m.moment new → IsLeft (m.may_leave new) crashed → m.left_since new t crashed) → (crashed : CrashState) → IsLeft (m.may_leave new) crashed → P crashed
  holds_now old new P run counts_now crashed left = run.each crashed (counts_now (m.moment old) crashed run.later left)

  -- and what the files then read
  pub reads_now : (old new : D) (P : CrashState → Type 0) → LeavesOnly m old new P
      → ((t : ℕ) (crashed : CrashState) → t ≤ m.moment new → IsLeft (m.may_leave new) crashed → m.left_since new t crashed) → IsLeft (m.may_leave new) (m.seen new) → P (m.seen new)
  reads_now old new P run counts_now reads = holds_now old new P run counts_now (m.seen new) reads

  -- two calls on one file keep the others
  pub keeps_on : (file : ℕ) (old mid new : D) → KeepsOthers m file old mid → KeepsOthers m file mid new → KeepsOthers m file old new
  keeps_on file old mid new first second = record {
    reads = λ f le other. second.reads f le other ∙ first.reads f le other;
    no_more = λ f c le other left. first.no_more f c le other (second.no_more f c le other left);
    no_fewer = λ f c le other left. second.no_fewer f c le other (first.no_fewer f c le other left);
  }

  -- a call that only looks keeps them too
  pub others_of : (file : ℕ) (old new : D) → KeepsAll m old new → KeepsOthers m file old new
  others_of file old new all = record {
    reads = λ f le other. all.reads f le;
    no_more = λ f c le other left. all.no_more f c le left;
    no_fewer = λ f c le other left. all.no_fewer f c le left;
  }

  -- what a crash may leave of the other files after a call on one, it might leave before
  pub others_left : (file : ℕ) (old new : D) → KeepsOthers m file old new → (crashed : CrashState) → OthersLeft (m.may_leave new) file crashed → OthersLeft (m.may_leave old) file crashed
  others_left file old new others crashed left f le other = others.no_more f (crashed f) le other (left f le other)

  -- before the first call on a file, and one call more on it
  pub changes_not : (file : ℕ) (disk : D) → ((crashed : CrashState) → m.left_since disk (m.moment disk) crashed → IsLeft (m.may_leave disk) crashed) → ChangesOnly m file disk disk
  changes_not file disk only_now = record {
    others = record { reads = λ f le other. refl; no_more = λ f c le other left. left; no_fewer = λ f c le other left. left };
    any_moment = started disk (OthersLeft (m.may_leave disk) file) (λ crashed left f le other. only_now crashed left f le);
  }

  pub changes_on : (file : ℕ) (old mid new : D) → ChangesOnly m file old mid → KeepsOthers m file mid new → Elapses m mid new → ChangesOnly m file old new
  changes_on file old mid new so_far others time = record {
    others = keeps_on file old mid new so_far.others others;
    any_moment = goes_on old mid new (OthersLeft (m.may_leave old) file) so_far.any_moment time
        (λ crashed left. others_left file old mid so_far.others crashed (others_left file mid new others crashed (λ f le other. left f le)));
  }

  -- looking at nothing, and looking on
  pub looks_not : (disk : D) → ((crashed : CrashState) → m.left_since disk (m.moment disk) crashed → IsLeft (m.may_leave disk) crashed) → OnlyLooks m disk disk
  looks_not disk only_now = record {
    reads = λ f le. refl;
    no_more = λ f c le left. left;
    any_moment = started disk (IsLeft (m.may_leave disk)) only_now;
  }

  pub looks_on : (old mid new : D) → OnlyLooks m old mid → OnlyLooks m mid new → OnlyLooks m old new
  looks_on old mid new first second = record {
    reads = λ f le. second.reads f le ∙ first.reads f le;
    no_more = λ f c le left. first.no_more f c le (second.no_more f c le left);
    any_moment = goes_further old mid new (IsLeft (m.may_leave old)) (IsLeft (m.may_leave mid)) first.any_moment second.any_moment (λ crashed left f le. first.no_more f (crashed f) le (left f le));
  }

  -- a sync takes outcomes away and adds none
  pub fewer_left : (file : ℕ) (old new : D) → ((c : List ℕ) → m.may_leave new file c → m.may_leave old file c) → KeepsOthers m file old new
      → (crashed : CrashState) → IsLeft (m.may_leave new) crashed → IsLeft (m.may_leave old) crashed
  fewer_left file old new crash others crashed left f le = elim (cases_eq f file) [
    | inl same ↦ subst (λ (g : ℕ). m.may_leave old g (crashed g)) (sym same) (crash (crashed file) (subst (λ (g : ℕ). m.may_leave new g (crashed g)) same (left f le)))
    | inr other ↦ others.no_more f (crashed f) le other (left f le)
  ]

  -- a sync only looks
  pub looks_by_sync : (file : ℕ) (old new : D) → ((crashed : CrashState) → m.left_since old (m.moment old) crashed → IsLeft (m.may_leave old) crashed)
      → m.seen new file ≡ m.seen old file → ((c : List ℕ) → m.may_leave new file c → m.may_leave old file c) → KeepsOthers m file old new → Elapses m old new → OnlyLooks m old new
  looks_by_sync file old new only_now reads crash others time = record {
    reads = λ f le. elim (cases_eq f file) [
      | inl same ↦ subst (λ (g : ℕ). m.seen new g ≡ m.seen old g) (sym same) reads
      | inr other ↦ others.reads f le other
    ];
    no_more = λ f c le left. elim (cases_eq f file) [
      | inl same ↦ subst (λ (g : ℕ). m.may_leave old g c) (sym same) (crash c (subst (λ (g : ℕ). m.may_leave new g c) same left))
      | inr other ↦ others.no_more f c le other left
    ];
    any_moment = goes_on old old new (IsLeft (m.may_leave old)) (started old (IsLeft (m.may_leave old)) only_now) time (fewer_left file old new crash others);
  }

  -- and so does a call that keeps all
  pub looks_by_all : (old mid new : D) → OnlyLooks m old mid → KeepsAll m mid new → Elapses m mid new → OnlyLooks m old new
  looks_by_all old mid new looks all time = record {
    reads = λ f le. all.reads f le ∙ looks.reads f le;
    no_more = λ f c le left. looks.no_more f c le (all.no_more f c le left);
    any_moment = goes_on old mid new (IsLeft (m.may_leave old)) looks.any_moment time (λ crashed left f le. looks.no_more f (crashed f) le (all.no_more f (crashed f) le (left f le)));
  }
