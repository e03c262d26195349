-- A source is taken only between items, at its end.
use Rattle.std.proofs.Common.{◌≡◌, ℕ, zero, suc, ◌+◌, ◌-◌, Bool, true, false, cond, ◌&&◌, ltb, ◌⊎◌, List, [], ◌∷◌, is_some, Some, None, Option, sym, refl, ◌∙◌, subst, inl, inr, arith}
use Rattle.std.proofs.lemmas.Bool.{and_parts, false≢true}
use Rattle.token.specs.Tokens.{Kind, Word, Number, Huge, Mark, Other, End, Token, token, gap, lead, tokens_behind}
use Rattle.source.specs.State.{Change, Ask, Purpose, By, Listed, Target, Tested, Operates, HeaderName, HeaderOpen, FieldName, FieldWidth, FieldEnd, FirstName, FirstEnd, AfterName, AfterBy, ChoiceValue, ChoiceColon, ChoiceNext, ChoiceEnd, TableName, TableOpen, LookWord, SetsWord, ListStart, LinesWord, Lines, LinesEnd, TableClose, Named, Behind, Member, Past, DoOpen, Statement, ApplyName, ApplyEnd, Value, Settle, BehindYes, ElseOpen, Phase, Item, InHeader, InRoute, InTable, InField, InBody, Seen}
use Rattle.source.specs.Steps.{Step, go, stop, is_end}
use Rattle.source.specs.Using.{has_room_for, past}
use Rattle.source.specs.Reading.{unnamed, complete, step, taken, refused, onward, run}
use Rattle.std.specs.List.{AllByRecursion}
use Rattle.limits.proofs.Words.{Proper}
use Rattle.limits.proofs.Stepping.{After, goes, stops, if_kept, known_kept}

-- a token that ends the source is among these
unfoldable pub Ended : List Token → Type 0
Ended [] = ⊥
Ended (x ∷ xs) = (is_end x.kind ≡ true) ⊎ Ended xs

ended_if : (b : Bool) (ts us : List Token) → Ended ts → Ended us → Ended (cond b ts us)
ended_if true ts us h k = h
ended_if false ts us h k = k

pub tokens_end : (k i : ℕ) (bs : List ℕ) → Ended (tokens_behind k i bs)
unfolding Ended tokens_behind
tokens_end k i [] = inl refl
tokens_end (suc k) i (b ∷ bs) = tokens_end k (i + 1) bs
tokens_end zero i (b ∷ bs) = ended_if (ltb 0 (gap (b ∷ bs))) _ _ (tokens_end (gap (b ∷ bs) - 1) (i + 1) bs) (inr (tokens_end ((lead (b ∷ bs)).width - 1) (i + 1) bs))

-- what a source that is taken has in full
pub record Complete (d : Seen) : Type 0 where
  pub named : unnamed d.names.headers d.routes.choices ≡ None
  pub starts : is_some d.routes.first ≡ true
  pub begun : d.body.begun ≡ true

module _ (P : Phase → Seen → Type 0) where
  -- at the end of the source
  pub record AtEnd (q : Phase) (d : Seen) : Type 0 where
    pub complete_there : Complete d
    pub held : P Item d

  completes : (o : Option ℕ) (at : ℕ) (d : Seen) → unnamed d.names.headers d.routes.choices ≡ o → P Item d → After AtEnd (complete o at d)
  completes (Some n) at d e h = stops
  completes None at d e h =
      if_kept (is_some d.routes.first && d.body.begun) _ _
      (λ t. goes (record {
        complete_there = record { named = e; starts = (and_parts (is_some d.routes.first) d.body.begun t).0; begun = (and_parts (is_some d.routes.first) d.body.begun t).1 };
        held = h;
      })) (λ t. stops)

  past_end : (u : Purpose) (f at : ℕ) (d : Seen) → After AtEnd (past u f d (token End at))
  past_end (By k) f at d = stops
  past_end (Listed l) f at d = stops
  past_end (Target adds o) f at d = stops
  past_end (Tested o) f at d = stops
  past_end (Operates (Change adds g o)) f at d = stops
  past_end (Operates (Ask less g o)) f at d = stops

  ends : (p : Phase) (d : Seen) (at : ℕ) → P p d → After AtEnd (step p d (token End at))
  ends Item d at h = completes (unnamed d.names.headers d.routes.choices) at d refl h
  ends (InHeader HeaderName) d at h = stops
  ends (InHeader (HeaderOpen k)) d at h = stops
  ends (InHeader (FieldName k bits)) d at h = stops
  ends (InHeader (FieldWidth k f bits)) d at h = stops
  ends (InHeader (FieldEnd k bits)) d at h = stops
  ends (InRoute FirstName) d at h = stops
  ends (InRoute FirstEnd) d at h = stops
  ends (InRoute AfterName) d at h = stops
  ends (InRoute (AfterBy k)) d at h = stops
  ends (InRoute (ChoiceValue k n)) d at h = stops
  ends (InRoute (ChoiceColon k n v)) d at h = stops
  ends (InRoute (ChoiceNext k n v)) d at h = stops
  ends (InRoute (ChoiceEnd k n)) d at h = stops
  ends (InTable TableName) d at h = stops
  ends (InTable TableOpen) d at h = stops
  ends (InTable LookWord) d at h = stops
  ends (InTable SetsWord) d at h = stops
  ends (InTable (ListStart p)) d at h = stops
  ends (InTable LinesWord) d at h = stops
  ends (InTable Lines) d at h = stops
  ends (InTable (LinesEnd n)) d at h = stops
  ends (InTable (TableClose n)) d at h = stops
  ends (InField u Named) d at h = stops
  ends (InField u (Behind k f o)) d at h = known_kept o f _ (λ g e. if_kept (has_room_for u d) _ _ (λ e1. past_end u g at d) (λ e1. stops))
  ends (InField u (Member k)) d at h = stops
  ends (InField u (Past f)) d at h = past_end u f at d
  ends (InBody DoOpen) d at h = stops
  ends (InBody Statement) d at h = stops
  ends (InBody (ApplyName key)) d at h = stops
  ends (InBody ApplyEnd) d at h = stops
  ends (InBody (Value g)) d at h = stops
  ends (InBody (Settle (Change adds f o1) o)) d at h = stops
  ends (InBody (Settle (Ask less f o1) o)) d at h = stops
  ends (InBody (BehindYes f)) d at h = stops
  ends (InBody (ElseOpen t)) d at h = stops

  ends_by : (p : Phase) (d : Seen) (k : Kind) (at : ℕ) → is_end k ≡ true → P p d → After AtEnd (step p d (token k at))
  ends_by p d (Word w) at e h = absurd (false≢true e)
  ends_by p d (Number n) at e h = absurd (false≢true e)
  ends_by p d Huge at e h = absurd (false≢true e)
  ends_by p d (Mark s) at e h = absurd (false≢true e)
  ends_by p d Other at e h = absurd (false≢true e)
  ends_by p d End at e h = ends p d at h

  taken_same : (d e : Seen) → taken d ≡ taken e → d ≡ e
  taken_same d e h = cc

  never : {A : Type 0} (f : _) (e : Seen) → refused f ≡ taken e → A
  never f e h = let z : ◌≡◌ {A = ℕ} 0 1 = cc in absurd (omega arith)

  by_step : (xs : List Token) (e : Seen) (b : Bool) (s : Step) → After P s → (b ≡ true → After AtEnd s) →
      ((q : Phase) (d : Seen) → b ≡ false → P q d → run q d xs ≡ taken e → AtEnd Item e) →
      onward b (λ q d. run q d xs) s ≡ taken e → AtEnd Item e
  by_step xs e true s a end more h = at_end s (end refl) h
    where
      at_end : (s : Step) → After AtEnd s → onward true (λ q d. run q d xs) s ≡ taken e → AtEnd Item e
      at_end (go q d) (goes r) h = subst (λ (d : Seen). AtEnd Item d) (taken_same d e h) (record { complete_there = r.complete_there; held = r.held })
      at_end (stop f) stops h = never f e h
  by_step xs e false s a end more h = on s a h
    where
      on : (s : Step) → After P s → onward false (λ q d. run q d xs) s ≡ taken e → AtEnd Item e
      on (go q d) (goes r) h = more q d refl r h
      on (stop f) stops h = never f e h

  pub run_keeps : (keeps : (p : Phase) (d : Seen) (x : Token) → Proper x → P p d → After P (step p d x)) (ts : List Token) → Ended ts → AllByRecursion Proper ts → (p : Phase) (d e : Seen) → P p d → run p d ts ≡ taken e → AtEnd Item e
  unfolding run Ended
  run_keeps keeps [] t a p d e h r = absurd t
  run_keeps keeps (x ∷ xs) t a p d e h r =
      by_step xs e (is_end x.kind) (step p d x) (keeps p d x a.0 h) (λ b. ends_by p d x.kind x.at b h)
      (λ q c b k r1. run_keeps keeps xs (elim t [ inl y ↦ absurd (false≢true (sym b ∙ y)) | inr y ↦ y ]) a.1 q c e k r1) r
