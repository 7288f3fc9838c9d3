-- The answer that is computed is the one that the table gives.
use Rattle.std.proofs.Common.{◌≡◌, ◌≢◌, ℕ, zero, suc, ◌/◌, ◌%◌, ◌⊎◌, inl, inr, Bool, true, false, cond, List, [], ◌∷◌, ◌++◌, Option, Some, None, is_some, refl, sym, ap, subst, ◌∙◌}
use Rattle.std.specs.Prelude.{◌&&◌, ◌==◌, not, slice_index}
use Rattle.std.specs.List.{list_any, slice_split}
use Rattle.std.specs.Str.{bytes_eq}
use Rattle.std.proofs.lemmas.Bool.{true≢false, false≢true, and_parts}
use Rattle.std.proofs.lemmas.Slice.Eq.{bytes_eq-Decides}
use Rattle.hex.specs.Hex.{lower_digits, encode_with}
use Rattle.sha1.specs.Sha1.{sha1}
use Rattle.sasl.specs.declared.command.Command.{Command}
use Rattle.sasl.specs.declared.command.Command.TheVariants.{Auth, Data, Error, Cancel, Begin, Other}
use Rattle.sasl.specs.declared.identity.Identity.TheVariants.{User, Anonymous}
use Rattle.sasl.specs.declared.phase.Awaited.{Awaited}
use Rattle.sasl.specs.declared.phase.Awaited.TheVariants.{Name, Digest}
use Rattle.sasl.specs.declared.phase.Phase.{Phase}
use Rattle.sasl.specs.declared.phase.Phase.TheVariants.{WaitingForNul, WaitingForAuth, WaitingForData, WaitingForBegin, Done, Closed}
use Rattle.sasl.specs.declared.server_line.ServerLine.{ServerLine}
use Rattle.sasl.specs.declared.server_line.ServerLine.TheVariants.{Challenge, AskName, Accept, Reject, NotUnderstood}
use Rattle.sasl.specs.Settings.{Setting, space, challenge_text, cookie_digest}
use Rattle.sasl.specs.Lines.{Word, hex_value, IsHexOf, auth, cancel, begin, response, error, cookie_sha1, anonymous}
use Rattle.sasl.specs.Table.{ShowsCookie, Attempt, as_user, as_somebody, as_nobody, with_trace, Response, names_user, shows_cookie, Row, attempt, other_attempt, error_of_client, begin_early, data_right, other_data, data_cancelled, data_error, begin_before_data, begin_at_last, begin_cancelled, begin_error, Answers, by_row, anything_else}
use Rattle.sasl.specs.Hearing.{Answer, rejected, accepted, challenged, are, named, traced, attempted, shows_parts, shows_cookie as shows, responded, is_nil, command_of, behind, answer_command, answer}
use Rattle.sasl.proofs.Splitting.{or_parts, or_none, split_behind, split_none, first_part_has_none, two_parts}

is_same : (xs ys : List ℕ) → bytes_eq xs ys ≡ true → xs ≡ ys
is_same xs ys e = (bytes_eq-Decides xs ys).0 e

same_as_itself : (xs : List ℕ) → bytes_eq xs xs ≡ true
same_as_itself xs = (bytes_eq-Decides xs xs).1 refl

-- ## What a client says that knows the cookie

abbrev is_space : ℕ → Bool
is_space b = b == space

no_digit_is_space : (digits : List ℕ) (d : ℕ) → list_any is_space digits ≡ false → is_space (slice_index digits d) ≡ false
no_digit_is_space [] d none = refl
no_digit_is_space (x ∷ digits) zero none = (or_parts (is_space x) (list_any is_space digits) none).0
no_digit_is_space (x ∷ digits) (suc d) none = no_digit_is_space digits d (or_parts (is_space x) (list_any is_space digits) none).1

no_space_in_hex : (bytes : List ℕ) → list_any is_space (encode_with lower_digits bytes) ≡ false
unfolding encode_with
no_space_in_hex [] = refl
no_space_in_hex (b ∷ bytes) =
    or_none (is_space (slice_index lower_digits (b / 16))) _ (no_digit_is_space lower_digits (b / 16) refl)
    (or_none (is_space (slice_index lower_digits (b % 16))) _ (no_digit_is_space lower_digits (b % 16) refl) (no_space_in_hex bytes))

no_space_in_digest : (challenge client cookie : List ℕ) → list_any is_space (cookie_digest challenge client cookie) ≡ false
unfolding cookie_digest
no_space_in_digest challenge client cookie = no_space_in_hex (sha1 (challenge ++ 58 ∷ client ++ 58 ∷ cookie))

not_nil : (xs : List ℕ) → xs ≢ [] → not (bytes_eq xs []) ≡ true
not_nil [] h = absurd (h refl)
not_nil (x ∷ xs) h = refl

is_not_nil : (xs : List ℕ) → not (bytes_eq xs []) ≡ true → xs ≢ []
is_not_nil xs h e = true≢false (sym h ∙ ap (λ (x : List ℕ). not (bytes_eq x [])) e)

module _ (s : Setting) where
  abbrev digest_for : List ℕ → List ℕ
  digest_for client = cookie_digest (challenge_text s) client s.login.cookie.secret

  shown : (said : List ℕ) → ShowsCookie s said → shows s (Some said) ≡ true
  shown said h =
      let client = h.client in
      let split : slice_split is_space said ≡ client ∷ digest_for client ∷ [] =
      ap (slice_split is_space) h.said_is ∙ split_behind is_space client space (digest_for client) h.no_space refl
      ∙ ap (λ (parts : List Word). client ∷ parts) (split_none is_space (digest_for client) (no_space_in_digest (challenge_text s) client s.login.cookie.secret)) in
      ap (shows_parts s) split
      ∙ ap (λ (t : Bool). t && bytes_eq (digest_for client) (digest_for client)) (not_nil client h.not_empty)
      ∙ same_as_itself (digest_for client)

  by_parts : (said : List ℕ) (parts : List Word) → slice_split is_space said ≡ parts → shows_parts s parts ≡ true → ShowsCookie s said
  by_parts said [] e h = absurd (false≢true h)
  by_parts said (client ∷ []) e h = absurd (false≢true h)
  by_parts said (client ∷ digest ∷ []) e h =
      let told = and_parts (not (bytes_eq client [])) (bytes_eq digest (digest_for client)) h in
      record {
        client = client;
        not_empty = is_not_nil client told.0;
        no_space = first_part_has_none is_space said client (digest ∷ []) e;
        said_is = two_parts space said client digest e ∙ ap (λ (x : List ℕ). client ++ space ∷ x) (is_same digest (digest_for client) told.1);
      }
  by_parts said (client ∷ digest ∷ another ∷ others) e h = absurd (false≢true h)

  -- ## AUTH

  abbrev are_user : Option (List ℕ) → Bool
  are_user o = are s.login.user o

  user_named : (word : Word) → IsHexOf word s.login.user → are_user (hex_value word) ≡ true
  user_named word h = ap are_user h ∙ same_as_itself s.login.user

  found_user : (o : Option (List ℕ)) → are_user o ≡ true → o ≡ Some s.login.user
  found_user None h = absurd (false≢true h)
  found_user (Some found) h = ap (λ (x : List ℕ). let o : Option (List ℕ) = Some x in o) (is_same found s.login.user h)

  abbrev anonymously : Answer
  anonymously = accepted Anonymous

  attempt_is : (words : List Word) (reply : ServerLine) (next : Phase) → Attempt s words reply next → attempted s words ≡ (reply, next)
  attempt_is words reply next (as_user name h) = ap (λ (t : Bool). cond t challenged rejected) (user_named name h)
  attempt_is words reply next as_somebody = refl
  attempt_is words reply next (as_nobody allowed) = ap (λ (t : Bool). cond t anonymously rejected) allowed
  attempt_is words reply next (with_trace trace bytes allowed h) =
      ap (λ (t : Bool). cond t (traced (Some trace)) rejected) allowed ∙ ap (λ (o : Option (List ℕ)). cond (is_some o) anonymously rejected) h

  abbrev IsAttempt : List Word → Answer → Type 0
  IsAttempt words turn = Attempt s words turn.0 turn.1 ⊎ (turn ≡ rejected)

  names : (mechanism name : Word) (t : Bool) → bytes_eq mechanism cookie_sha1 ≡ true → are_user (hex_value name) ≡ t → IsAttempt (mechanism ∷ name ∷ []) (cond t challenged rejected)
  names mechanism name true e h =
      inl (subst (λ (m : Word). Attempt s (m ∷ name ∷ []) Challenge (WaitingForData Digest)) (sym (is_same mechanism cookie_sha1 e)) (as_user name (found_user (hex_value name) h)))
  names mechanism name false e h = inr refl

  traces : (mechanism trace : Word) (o : Option (List ℕ)) → mechanism ≡ anonymous → s.login.allow_anonymous ≡ true → hex_value trace ≡ o → IsAttempt (mechanism ∷ trace ∷ []) (cond (is_some o) anonymously rejected)
  traces mechanism trace None e allowed h = inr refl
  traces mechanism trace (Some bytes) e allowed h =
      inl (subst (λ (m : Word). Attempt s (m ∷ trace ∷ []) Accept (WaitingForBegin Anonymous)) (sym e) (with_trace trace bytes allowed h))

  abbrev by_test : Bool → Bool → Option Word → Answer
  by_test t u word = cond t (named s word) (cond u (traced word) rejected)

  one_word : (mechanism : Word) (t u : Bool) → bytes_eq mechanism cookie_sha1 ≡ t → (bytes_eq mechanism anonymous && s.login.allow_anonymous) ≡ u → IsAttempt (mechanism ∷ []) (by_test t u None)
  one_word mechanism true u e f = inl (subst (λ (m : Word). Attempt s (m ∷ []) AskName (WaitingForData Name)) (sym (is_same mechanism cookie_sha1 e)) as_somebody)
  one_word mechanism false true e f =
      let told = and_parts (bytes_eq mechanism anonymous) s.login.allow_anonymous f in
      inl (subst (λ (m : Word). Attempt s (m ∷ []) Accept (WaitingForBegin Anonymous)) (sym (is_same mechanism anonymous told.0)) (as_nobody told.1))
  one_word mechanism false false e f = inr refl

  two_words : (mechanism word : Word) (t u : Bool) → bytes_eq mechanism cookie_sha1 ≡ t → (bytes_eq mechanism anonymous && s.login.allow_anonymous) ≡ u → IsAttempt (mechanism ∷ word ∷ []) (by_test t u (Some word))
  two_words mechanism word true u e f = names mechanism word (are_user (hex_value word)) e refl
  two_words mechanism word false true e f =
      let told = and_parts (bytes_eq mechanism anonymous) s.login.allow_anonymous f in
      traces mechanism word (hex_value word) (is_same mechanism anonymous told.0) told.1 refl
  two_words mechanism word false false e f = inr refl

  attempts : (words : List Word) → IsAttempt words (attempted s words)
  attempts [] = inr refl
  attempts (mechanism ∷ []) = one_word mechanism (bytes_eq mechanism cookie_sha1) (bytes_eq mechanism anonymous && s.login.allow_anonymous) refl refl
  attempts (mechanism ∷ word ∷ []) = two_words mechanism word (bytes_eq mechanism cookie_sha1) (bytes_eq mechanism anonymous && s.login.allow_anonymous) refl refl
  attempts (mechanism ∷ word ∷ another ∷ others) = inr refl

  -- ## DATA

  response_is : (due : Awaited) (words : List Word) (reply : ServerLine) (next : Phase) → Response s due words reply next → responded s due words ≡ (reply, next)
  response_is due words reply next (names_user name h) = ap (λ (t : Bool). cond t challenged rejected) (user_named name h)
  response_is due words reply next (shows_cookie word said h k) =
      ap (λ (o : Option (List ℕ)). cond (shows s o) (accepted User) rejected) h ∙ ap (λ (t : Bool). cond t (accepted User) rejected) (shown said k)

  abbrev IsResponse : Awaited → List Word → Answer → Type 0
  IsResponse due words turn = Response s due words turn.0 turn.1 ⊎ (turn ≡ rejected)

  name_awaited : (name : Word) (t : Bool) → are_user (hex_value name) ≡ t → IsResponse Name (name ∷ []) (cond t challenged rejected)
  name_awaited name true h = inl (names_user name (found_user (hex_value name) h))
  name_awaited name false h = inr refl

  digest_awaited : (word : Word) (o : Option (List ℕ)) → hex_value word ≡ o → (t : Bool) → shows s o ≡ t → IsResponse Digest (word ∷ []) (cond t (accepted User) rejected)
  digest_awaited word o e false h = inr refl
  digest_awaited word None e true h = absurd (false≢true h)
  digest_awaited word (Some said) e true h = inl (shows_cookie word said e (by_parts said (slice_split is_space said) refl h))

  responses : (due : Awaited) (words : List Word) → IsResponse due words (responded s due words)
  responses due [] = inr refl
  responses Name (word ∷ []) = name_awaited word (are_user (hex_value word)) refl
  responses Digest (word ∷ []) = digest_awaited word (hex_value word) refl (shows s (hex_value word)) refl
  responses due (word ∷ another ∷ others) = inr refl

  -- ## The table

  pub row_is : (phase : Phase) (words : List Word) (reply : ServerLine) (next : Phase) → Row s phase words reply next → answer s phase words ≡ (reply, next)
  row_is phase words reply next (attempt others r n a) = attempt_is others r n a
  row_is phase words reply next (other_attempt others none) = elim (attempts others) [ inl a ↦ absurd (none _ _ a) | inr e ↦ e ]
  row_is phase words reply next (error_of_client others) = refl
  row_is phase words reply next begin_early = refl
  row_is phase words reply next (data_right due others r n h) = response_is due others r n h
  row_is phase words reply next (other_data due others none) = elim (responses due others) [ inl h ↦ absurd (none _ _ h) | inr e ↦ e ]
  row_is phase words reply next (data_cancelled due) = refl
  row_is phase words reply next (data_error due others) = refl
  row_is phase words reply next (begin_before_data due) = refl
  row_is phase words reply next (begin_at_last identity) = refl
  row_is phase words reply next (begin_cancelled identity) = refl
  row_is phase words reply next (begin_error identity others) = refl

  -- which command words are
  data Reads : List Word → Command → Type 0 where
    nothing : Reads [] Other
    reads_auth : (others : List Word) → Reads (auth ∷ others) Auth
    reads_data : (others : List Word) → Reads (response ∷ others) Data
    reads_error : (others : List Word) → Reads (error ∷ others) Error
    reads_cancel : Reads (cancel ∷ []) Cancel
    reads_begin : Reads (begin ∷ []) Begin
    reads_other : (words : List Word) → Reads words Other

  is_alone : (words : List Word) → is_nil words ≡ true → words ≡ []
  is_alone [] h = refl
  is_alone (word ∷ words) h = absurd (false≢true h)

  abbrev tested : Bool → Bool → Bool → Bool → Bool → Command
  tested a d e c b = cond a Auth (cond d Data (cond e Error (cond c Cancel (cond b Begin Other))))

  reads_word : (word : Word) (words : List Word) (a d e c b : Bool) → bytes_eq word auth ≡ a → bytes_eq word response ≡ d → bytes_eq word error ≡ e → (bytes_eq word cancel && is_nil words) ≡ c → (bytes_eq word begin && is_nil words) ≡ b →
      Reads (word ∷ words) (tested a d e c b)
  reads_word word words true d e c b p q r t u = subst (λ (w : Word). Reads (w ∷ words) Auth) (sym (is_same word auth p)) (reads_auth words)
  reads_word word words false true e c b p q r t u = subst (λ (w : Word). Reads (w ∷ words) Data) (sym (is_same word response q)) (reads_data words)
  reads_word word words false false true c b p q r t u = subst (λ (w : Word). Reads (w ∷ words) Error) (sym (is_same word error r)) (reads_error words)
  reads_word word words false false false true b p q r t u =
      let told = and_parts (bytes_eq word cancel) (is_nil words) t in
      subst (λ (w : Word). Reads (w ∷ words) Cancel) (sym (is_same word cancel told.0))
      (subst (λ (ws : List Word). Reads (cancel ∷ ws) Cancel) (sym (is_alone words told.1)) reads_cancel)
  reads_word word words false false false false true p q r t u =
      let told = and_parts (bytes_eq word begin) (is_nil words) u in
      subst (λ (w : Word). Reads (w ∷ words) Begin) (sym (is_same word begin told.0))
      (subst (λ (ws : List Word). Reads (begin ∷ ws) Begin) (sym (is_alone words told.1)) reads_begin)
  reads_word word words false false false false false p q r t u = reads_other (word ∷ words)

  reads : (words : List Word) → Reads words (command_of words)
  reads [] = nothing
  reads (word ∷ words) = reads_word word words (bytes_eq word auth) (bytes_eq word response) (bytes_eq word error) (bytes_eq word cancel && is_nil words) (bytes_eq word begin && is_nil words) refl refl refl refl refl

  abbrev IsRow : Phase → List Word → Answer → Type 0
  IsRow phase words turn = Row s phase words turn.0 turn.1 ⊎ (turn ≡ (NotUnderstood, phase))

  attempt_row : (others : List Word) (turn : Answer) → attempted s others ≡ turn → IsAttempt others turn → IsRow WaitingForAuth (auth ∷ others) turn
  attempt_row others turn e (inl a) = inl (attempt others turn.0 turn.1 a)
  attempt_row others turn e (inr fails) =
      inl (subst (λ (t : Answer). Row s WaitingForAuth (auth ∷ others) t.0 t.1) (sym fails) (other_attempt others (λ r n a. not_rejected others r n a (sym (attempt_is others r n a) ∙ e ∙ fails))))
    where
      not_rejected : (words : List Word) (r : ServerLine) (n : Phase) → Attempt s words r n → (r, n) ≡ rejected → ⊥
      not_rejected words r n a e = replies words r n a (ap (λ (t : Answer). t.0) e)
        where
          replies : (words : List Word) (r : ServerLine) (n : Phase) → Attempt s words r n → r ≡ Reject → ⊥
          replies words r n (as_user name h) e = cc
          replies words r n as_somebody e = cc
          replies words r n (as_nobody allowed) e = cc
          replies words r n (with_trace trace bytes allowed h) e = cc

  response_row : (due : Awaited) (others : List Word) (turn : Answer) → responded s due others ≡ turn → IsResponse due others turn → IsRow (WaitingForData due) (response ∷ others) turn
  response_row due others turn e (inl h) = inl (data_right due others turn.0 turn.1 h)
  response_row due others turn e (inr fails) =
      inl (subst (λ (t : Answer). Row s (WaitingForData due) (response ∷ others) t.0 t.1) (sym fails) (other_data due others (λ r n h. replies due others r n h (ap (λ (t : Answer). t.0) (sym (response_is due others r n h) ∙ e ∙ fails)))))
    where
      replies : (due : Awaited) (words : List Word) (r : ServerLine) (n : Phase) → Response s due words r n → r ≡ Reject → ⊥
      replies due words r n (names_user name h) e = cc
      replies due words r n (shows_cookie word said h k) e = cc

  rows : (phase : Phase) (words : List Word) (command : Command) → Reads words command → IsRow phase words (answer_command s phase command (behind words))
  rows WaitingForNul words command nothing = inr refl
  rows WaitingForNul words command (reads_auth others) = inr refl
  rows WaitingForNul words command (reads_data others) = inr refl
  rows WaitingForNul words command (reads_error others) = inr refl
  rows WaitingForNul words command reads_cancel = inr refl
  rows WaitingForNul words command reads_begin = inr refl
  rows WaitingForNul words command (reads_other ws) = inr refl
  rows WaitingForAuth words command nothing = inr refl
  rows WaitingForAuth words command (reads_auth others) = attempt_row others (attempted s others) refl (attempts others)
  rows WaitingForAuth words command (reads_data others) = inr refl
  rows WaitingForAuth words command (reads_error others) = inl (error_of_client others)
  rows WaitingForAuth words command reads_cancel = inr refl
  rows WaitingForAuth words command reads_begin = inl begin_early
  rows WaitingForAuth words command (reads_other ws) = inr refl
  rows (WaitingForData due) words command nothing = inr refl
  rows (WaitingForData due) words command (reads_auth others) = inr refl
  rows (WaitingForData due) words command (reads_data others) = response_row due others (responded s due others) refl (responses due others)
  rows (WaitingForData due) words command (reads_error others) = inl (data_error due others)
  rows (WaitingForData due) words command reads_cancel = inl (data_cancelled due)
  rows (WaitingForData due) words command reads_begin = inl (begin_before_data due)
  rows (WaitingForData due) words command (reads_other ws) = inr refl
  rows (WaitingForBegin identity) words command nothing = inr refl
  rows (WaitingForBegin identity) words command (reads_auth others) = inr refl
  rows (WaitingForBegin identity) words command (reads_data others) = inr refl
  rows (WaitingForBegin identity) words command (reads_error others) = inl (begin_error identity others)
  rows (WaitingForBegin identity) words command reads_cancel = inl (begin_cancelled identity)
  rows (WaitingForBegin identity) words command reads_begin = inl (begin_at_last identity)
  rows (WaitingForBegin identity) words command (reads_other ws) = inr refl
  rows (Done identity) words command nothing = inr refl
  rows (Done identity) words command (reads_auth others) = inr refl
  rows (Done identity) words command (reads_data others) = inr refl
  rows (Done identity) words command (reads_error others) = inr refl
  rows (Done identity) words command reads_cancel = inr refl
  rows (Done identity) words command reads_begin = inr refl
  rows (Done identity) words command (reads_other ws) = inr refl
  rows (Closed fault) words command nothing = inr refl
  rows (Closed fault) words command (reads_auth others) = inr refl
  rows (Closed fault) words command (reads_data others) = inr refl
  rows (Closed fault) words command (reads_error others) = inr refl
  rows (Closed fault) words command reads_cancel = inr refl
  rows (Closed fault) words command reads_begin = inr refl
  rows (Closed fault) words command (reads_other ws) = inr refl

  understood : (phase : Phase) (words : List Word) (reply : ServerLine) (next : Phase) → Row s phase words reply next → reply ≡ NotUnderstood → ⊥
  understood phase words reply next (attempt others r n a) e = of_attempt others r n a e
    where
      of_attempt : (words : List Word) (r : ServerLine) (n : Phase) → Attempt s words r n → r ≡ NotUnderstood → ⊥
      of_attempt words r n (as_user name h) e = cc
      of_attempt words r n as_somebody e = cc
      of_attempt words r n (as_nobody allowed) e = cc
      of_attempt words r n (with_trace trace bytes allowed h) e = cc
  understood phase words reply next (other_attempt others none) e = cc
  understood phase words reply next (error_of_client others) e = cc
  understood phase words reply next begin_early e = cc
  understood phase words reply next (data_right due others r n h) e = of_response due others r n h e
    where
      of_response : (due : Awaited) (words : List Word) (r : ServerLine) (n : Phase) → Response s due words r n → r ≡ NotUnderstood → ⊥
      of_response due words r n (names_user name h) e = cc
      of_response due words r n (shows_cookie word said h k) e = cc
  understood phase words reply next (other_data due others none) e = cc
  understood phase words reply next (data_cancelled due) e = cc
  understood phase words reply next (data_error due others) e = cc
  understood phase words reply next (begin_before_data due) e = cc
  understood phase words reply next (begin_at_last identity) e = cc
  understood phase words reply next (begin_cancelled identity) e = cc
  understood phase words reply next (begin_error identity others) e = cc

  answers_by : (phase : Phase) (words : List Word) (turn : Answer) → answer s phase words ≡ turn → IsRow phase words turn → Answers s phase words turn.0 turn.1
  answers_by phase words turn e (inl row) = by_row turn.0 turn.1 row
  answers_by phase words turn e (inr fails) =
      subst (λ (t : Answer). Answers s phase words t.0 t.1) (sym fails)
      (anything_else (λ r n row. understood phase words r n row (ap (λ (t : Answer). t.0) (sym (row_is phase words r n row) ∙ e ∙ fails))))

  -- the answer that is computed is an answer
  pub answers : (phase : Phase) (words : List Word) → Answers s phase words (answer s phase words).0 (answer s phase words).1
  answers phase words = answers_by phase words (answer s phase words) refl (rows phase words (command_of words) (reads words))

  -- and any answer is the one that is computed
  pub answer_is : (phase : Phase) (words : List Word) (reply : ServerLine) (next : Phase) → Answers s phase words reply next → answer s phase words ≡ (reply, next)
  answer_is phase words reply next (by_row r n row) = row_is phase words r n row
  answer_is phase words reply next (anything_else none) =
      elim (rows phase words (command_of words) (reads words)) [ inl row ↦ absurd (none _ _ row) | inr e ↦ e ]
