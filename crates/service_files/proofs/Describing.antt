-- The reading of a file from line to line, and what the file is as a whole.
use Rattle.std.proofs.Common.{◌≡◌, ℕ, ◌+◌, ◌<◌, Bool, true, false, List, [], ◌∷◌, length, Option, Some, None, Ok, Err, refl, sym, ap, subst, ◌∙◌, arith, eqb-true, leb-true, le-leb}
use Rattle.std.specs.Prelude.{◌&&◌, ◌==◌, nat_eq, nat_le, Result, is_some, if◌then◌else◌}
use Rattle.std.specs.List.{slice_split}
use Rattle.std.proofs.lemmas.Bool.{true≢false}
use Rattle.names.specs.Texts.{Text, text_eq}
use Rattle.service_files.specs.declared.fault.FileFault.{FileFault}
use Rattle.service_files.specs.declared.fault.FileFault.TheVariants.{Twice, Name, Line}
use Rattle.service_files.specs.declared.group_kind.GroupKind.{GroupKind}
use Rattle.service_files.specs.declared.group_kind.GroupKind.TheVariants.{BeforeGroups, Service, Elsewhere}
use Rattle.service_files.specs.ServiceFiles.{Above, Said, Silence, Header, Entry, Described, said_by, line_feed, name_key, exec_key, is_service_name, words_of, described_as, service_from, service_in, nothing_above, fault_at, below, unless_fault, max_file_length}
use Rattle.service_files.specs.WholeFiles.{Say, are_placed, service_groups, values_of, IsServiceFile}

abbrev above : GroupKind → Bool → Option Text → Option Text → Above
above group has name exec = record { group = group; has_service = has; name = name; exec = exec }

abbrev is_inside : GroupKind → Bool
is_inside BeforeGroups = false
is_inside Service = true
is_inside Elsewhere = false

abbrev has_begun : GroupKind → Bool
has_begun BeforeGroups = false
has_begun Service = true
has_begun Elsewhere = true

abbrev listed : Option Text → List Text → List Text
listed None values = values
listed (Some value) values = value ∷ values

abbrev groups : Bool → ℕ
groups has = if has then 1 else 0

abbrev Named : Option Text → Type 0
Named None = Unit {0}
Named (Some name) = is_service_name name ≡ true

-- lines that describe the service together with what stands above them
record Complete (group : GroupKind) (has : Bool) (name exec : Option Text) (said : List Said) (service : Described) : Type 0 where
  placed : are_placed (has_begun group) said ≡ true
  one_group : groups has + service_groups said ≡ 1
  one_name : listed name (values_of name_key (is_inside group) said) ≡ service.name ∷ []
  named_well : is_service_name service.name ≡ true
  command : Text
  one_exec : listed exec (values_of exec_key (is_inside group) said) ≡ command ∷ []
  words : words_of command ≡ service.words
  program : 0 < length service.words

record Found (group : GroupKind) (has : Bool) (name exec : Option Text) (lines : List Text) (service : Described) : Type 0 where
  said : List Said
  say : Say lines said
  complete : Complete group has name exec said service

-- the two keys differ
keys_differ : (key : Text) → text_eq key name_key ≡ true → text_eq key exec_key ≡ false
keys_differ [] h = absurd (cc)
keys_differ (c ∷ key) h = go (nat_eq c 78) refl h
  where
    go : (t : Bool) → nat_eq c 78 ≡ t → (t && text_eq key (97 ∷ 109 ∷ 101 ∷ [])) ≡ true → text_eq (c ∷ key) exec_key ≡ false
    go true e k = let is : c ≡ 78 = eqb-true c 78 e in subst (λ (d : ℕ). text_eq (d ∷ key) exec_key ≡ false) (sym is) refl
    go false e k = absurd (cc)

-- ## What is read is what the file describes

at_end : (group : GroupKind) (has : Bool) (name exec : Option Text) (service : Described) → Named name → service_from (above group has name exec) 1 [] ≡ Ok service → Found group has name exec [] service
at_end group false name exec service good h = absurd (cc)
at_end group true None exec service good h = absurd (cc)
at_end group true (Some name) None service good h = absurd (cc)
at_end group true (Some name) (Some command) service good h = at_words (words_of command) refl h
  where
    at_words : (words : List Text) → words_of command ≡ words → described_as name words ≡ Ok service → Found group true (Some name) (Some command) [] service
    at_words [] e k = absurd (cc)
    at_words (program ∷ arguments) e k =
        let same : record { name = name; words = program ∷ arguments } ≡ service = cc in
        record {
          said = [];
          say = tt;
          complete = record {
            placed = refl;
            one_group = refl;
            one_name = ap (λ (d : Described). d.name ∷ []) same;
            named_well = subst (λ (d : Described). is_service_name d.name ≡ true) same good;
            command = command;
            one_exec = refl;
            words = e ∙ ap (λ (d : Described). d.words) same;
            program = subst (λ (d : Described). 0 < length d.words) same (omega arith);
          };
        }

abbrev Reads : ℕ → List Text → Described → Type 0
Reads n lines service = (group : GroupKind) (has : Bool) (name exec : Option Text) → Named name → service_from (above group has name exec) n lines ≡ Ok service → Found group has name exec lines service

-- a value in the service's group, by whether its key is Name, or Exec, and whether it is the name of a service
abbrev entered : Bool → Bool → Bool → Bool → Option Text → Option Text → ℕ → Text → List Text → Result Described FileFault
entered is_name is_exec is_good has name exec n value lines =
    unless_fault
    (if is_name then (if is_some name then Some Twice else (if is_good then None else Some Name)) else (if is_exec && is_some exec then Some Twice else None))
    (service_from (if is_name then record (above Service has name exec) { name = Some value } else (if is_exec then record (above Service has name exec) { exec = Some value } else above Service has name exec)) n lines)

module _ (n : ℕ) (line : Text) (lines : List Text) (service : Described) (reads : Reads (n + 1) lines service) where
  module _ (has : Bool) (key value : Text) (says : said_by line ≡ Some (Entry key value)) where
    enters : (is_name is_exec is_good : Bool) (name exec : Option Text) → text_eq key name_key ≡ is_name → text_eq key exec_key ≡ is_exec → is_service_name value ≡ is_good → Named name → entered is_name is_exec is_good has name exec (n + 1) value lines ≡ Ok service → Found Service has name exec (line ∷ lines) service
    enters true is_exec is_good (Some name) exec a b c good h = absurd (cc)
    enters true is_exec false None exec a b c good h = absurd (cc)
    enters true is_exec true None exec a b c good h =
        let f = reads Service has (Some value) exec c h in
        let g = f.complete in
        record {
          said = Entry key value ∷ f.said;
          say = (says, f.say);
          complete = record {
            placed = refl;
            one_group = g.one_group;
            one_name = ap (λ (t : Bool). if t then value ∷ values_of name_key true f.said else values_of name_key true f.said) a ∙ g.one_name;
            named_well = g.named_well;
            command = g.command;
            one_exec = ap (λ (t : Bool). listed exec (if t then value ∷ values_of exec_key true f.said else values_of exec_key true f.said)) (keys_differ key a) ∙ g.one_exec;
            words = g.words;
            program = g.program;
          };
        }
    enters false true is_good name (Some exec) a b c good h = absurd (cc)
    enters false true is_good name None a b c good h =
        let f = reads Service has name (Some value) good h in
        let g = f.complete in
        record {
          said = Entry key value ∷ f.said;
          say = (says, f.say);
          complete = record {
            placed = refl;
            one_group = g.one_group;
            one_name = ap (λ (t : Bool). listed name (if t then value ∷ values_of name_key true f.said else values_of name_key true f.said)) a ∙ g.one_name;
            named_well = g.named_well;
            command = g.command;
            one_exec = ap (λ (t : Bool). if t then value ∷ values_of exec_key true f.said else values_of exec_key true f.said) b ∙ g.one_exec;
            words = g.words;
            program = g.program;
          };
        }
    enters false false is_good name exec a b c good h =
        let f = reads Service has name exec good h in
        let g = f.complete in
        record {
          said = Entry key value ∷ f.said;
          say = (says, f.say);
          complete = record {
            placed = refl;
            one_group = g.one_group;
            one_name = ap (λ (t : Bool). listed name (if t then value ∷ values_of name_key true f.said else values_of name_key true f.said)) a ∙ g.one_name;
            named_well = g.named_well;
            command = g.command;
            one_exec = ap (λ (t : Bool). listed exec (if t then value ∷ values_of exec_key true f.said else values_of exec_key true f.said)) b ∙ g.one_exec;
            words = g.words;
            program = g.program;
          };
        }

  at_line : (group : GroupKind) (has : Bool) (name exec : Option Text) → Named name → (said : Option Said) → said_by line ≡ said → unless_fault (fault_at n (above group has name exec) said) (service_from (below (above group has name exec) said) (n + 1) lines) ≡ Ok service → Found group has name exec (line ∷ lines) service
  at_line group has name exec good None says h = absurd (cc)
  at_line group has name exec good (Some Silence) says h =
      let f = reads group has name exec good h in
      let g = f.complete in
      record { said = Silence ∷ f.said; say = (says, f.say); complete = record { placed = g.placed; one_group = g.one_group; one_name = g.one_name; named_well = g.named_well; command = g.command; one_exec = g.one_exec; words = g.words; program = g.program } }
  at_line group true name exec good (Some (Header true)) says h = absurd (cc)
  at_line group false name exec good (Some (Header true)) says h =
      let f = reads Service true name exec good h in
      let g = f.complete in
      record { said = Header true ∷ f.said; say = (says, f.say); complete = record { placed = refl; one_group = omega (arith, g.one_group); one_name = g.one_name; named_well = g.named_well; command = g.command; one_exec = g.one_exec; words = g.words; program = g.program } }
  at_line group has name exec good (Some (Header false)) says h =
      let f = reads Elsewhere has name exec good h in
      let g = f.complete in
      record { said = Header false ∷ f.said; say = (says, f.say); complete = record { placed = refl; one_group = omega (arith, g.one_group); one_name = g.one_name; named_well = g.named_well; command = g.command; one_exec = g.one_exec; words = g.words; program = g.program } }
  at_line BeforeGroups has name exec good (Some (Entry key value)) says h = absurd (cc)
  at_line Elsewhere has name exec good (Some (Entry key value)) says h =
      let f = reads Elsewhere has name exec good h in
      let g = f.complete in
      record { said = Entry key value ∷ f.said; say = (says, f.say); complete = record { placed = refl; one_group = g.one_group; one_name = g.one_name; named_well = g.named_well; command = g.command; one_exec = g.one_exec; words = g.words; program = g.program } }
  at_line Service has name exec good (Some (Entry key value)) says h =
      enters has key value says (text_eq key name_key) (text_eq key exec_key) (is_service_name value) name exec refl refl refl good h

reads_all : (lines : List Text) (n : ℕ) (service : Described) → Reads n lines service
reads_all [] n service group has name exec good h = at_end group has name exec service good h
reads_all (line ∷ lines) n service group has name exec good h = at_line n line lines service (reads_all lines (n + 1) service) group has name exec good (said_by line) refl h

-- ## What the file describes is what is read

grouped : (said : List Said) → are_placed true said ≡ true
grouped [] = refl
grouped (Silence ∷ said) = grouped said
grouped (Header is_service ∷ said) = refl
grouped (Entry key value ∷ said) = refl

abbrev well : Text → List Text → Result Described FileFault
well name words = Ok (record { name = name; words = words })

with_words : (service : Described) (words : List Text) → service.words ≡ words → 0 < length words → described_as service.name words ≡ Ok service
with_words service [] e h = absurd (omega (arith, h))
with_words service (program ∷ arguments) e h = ap (well service.name) (sym e)

from_end : (group : GroupKind) (has : Bool) (name exec : Option Text) (service : Described) → Complete group has name exec [] service → service_from (above group has name exec) 1 [] ≡ Ok service
from_end group false name exec service g = absurd (omega (arith, g.one_group))
from_end group true None exec service g = let none = g.one_name in absurd (cc)
from_end group true (Some name) None service g = let none = g.one_exec in absurd (cc)
from_end group true (Some name) (Some command) service g =
    let same_name : name ≡ service.name = let e = g.one_name in cc in
    let same_command : command ≡ g.command = let e = g.one_exec in cc in
    ap (λ (m : Text). described_as m (words_of command)) same_name
    ∙ ap (described_as service.name) (ap words_of same_command ∙ g.words)
    ∙ with_words service service.words refl g.program

abbrev IsRead : ℕ → List Text → List Said → Described → Type 0
IsRead n lines said service = (group : GroupKind) (has : Bool) (name exec : Option Text) → Complete group has name exec said service → service_from (above group has name exec) n lines ≡ Ok service

module _ (n : ℕ) (lines : List Text) (said : List Said) (service : Described) (is_read : IsRead (n + 1) lines said service) where
  module _ (has : Bool) (key value : Text) where
    abbrev names : Bool → List Text
    names t = if t then value ∷ values_of name_key true said else values_of name_key true said

    abbrev commands : Bool → List Text
    commands t = if t then value ∷ values_of exec_key true said else values_of exec_key true said

    left : (is_name is_exec is_good : Bool) (name exec : Option Text) → text_eq key name_key ≡ is_name → text_eq key exec_key ≡ is_exec → is_service_name value ≡ is_good → Complete Service has name exec (Entry key value ∷ said) service → entered is_name is_exec is_good has name exec (n + 1) value lines ≡ Ok service
    left true is_exec is_good (Some name) exec a b c g =
        let two : name ∷ value ∷ values_of name_key true said ≡ service.name ∷ [] = sym (ap (λ (t : Bool). name ∷ names t) a) ∙ g.one_name in
        absurd (cc)
    left true is_exec false None exec a b c g =
        let one : value ∷ values_of name_key true said ≡ service.name ∷ [] = sym (ap names a) ∙ g.one_name in
        let same : value ≡ service.name = cc in
        absurd (true≢false (sym g.named_well ∙ ap is_service_name (sym same) ∙ c))
    left true is_exec true None exec a b c g =
        is_read Service has (Some value) exec (record {
          placed = grouped said;
          one_group = g.one_group;
          one_name = sym (ap names a) ∙ g.one_name;
          named_well = g.named_well;
          command = g.command;
          one_exec = sym (ap (λ (t : Bool). listed exec (commands t)) (keys_differ key a)) ∙ g.one_exec;
          words = g.words;
          program = g.program;
        })
    left false true is_good name (Some command) a b c g =
        let two : command ∷ value ∷ values_of exec_key true said ≡ g.command ∷ [] = sym (ap (λ (t : Bool). command ∷ commands t) b) ∙ g.one_exec in
        absurd (cc)
    left false true is_good name None a b c g =
        is_read Service has name (Some value) (record {
          placed = grouped said;
          one_group = g.one_group;
          one_name = sym (ap (λ (t : Bool). listed name (names t)) a) ∙ g.one_name;
          named_well = g.named_well;
          command = g.command;
          one_exec = sym (ap commands b) ∙ g.one_exec;
          words = g.words;
          program = g.program;
        })
    left false false is_good name exec a b c g =
        is_read Service has name exec (record {
          placed = grouped said;
          one_group = g.one_group;
          one_name = sym (ap (λ (t : Bool). listed name (names t)) a) ∙ g.one_name;
          named_well = g.named_well;
          command = g.command;
          one_exec = sym (ap (λ (t : Bool). listed exec (commands t)) b) ∙ g.one_exec;
          words = g.words;
          program = g.program;
        })

  from_line : (group : GroupKind) (has : Bool) (name exec : Option Text) (first : Said) → Complete group has name exec (first ∷ said) service → unless_fault (fault_at n (above group has name exec) (Some first)) (service_from (below (above group has name exec) (Some first)) (n + 1) lines) ≡ Ok service
  from_line group has name exec Silence g =
      is_read group has name exec (record { placed = g.placed; one_group = g.one_group; one_name = g.one_name; named_well = g.named_well; command = g.command; one_exec = g.one_exec; words = g.words; program = g.program })
  from_line group true name exec (Header true) g = absurd (omega (arith, g.one_group))
  from_line group false name exec (Header true) g =
      is_read Service true name exec (record { placed = grouped said; one_group = omega (arith, g.one_group); one_name = g.one_name; named_well = g.named_well; command = g.command; one_exec = g.one_exec; words = g.words; program = g.program })
  from_line group has name exec (Header false) g =
      is_read Elsewhere has name exec (record { placed = grouped said; one_group = omega (arith, g.one_group); one_name = g.one_name; named_well = g.named_well; command = g.command; one_exec = g.one_exec; words = g.words; program = g.program })
  from_line BeforeGroups has name exec (Entry key value) g = absurd (true≢false (sym g.placed))
  from_line Elsewhere has name exec (Entry key value) g =
      is_read Elsewhere has name exec (record { placed = grouped said; one_group = g.one_group; one_name = g.one_name; named_well = g.named_well; command = g.command; one_exec = g.one_exec; words = g.words; program = g.program })
  from_line Service has name exec (Entry key value) g =
      left has key value (text_eq key name_key) (text_eq key exec_key) (is_service_name value) name exec refl refl refl g

is_read_all : (lines : List Text) (said : List Said) (n : ℕ) (service : Described) → Say lines said → IsRead n lines said service
is_read_all [] [] n service say group has name exec g = from_end group has name exec service g
is_read_all [] (first ∷ said) n service say group has name exec g = absurd say
is_read_all (line ∷ lines) [] n service say group has name exec g = absurd say
is_read_all (line ∷ lines) (first ∷ said) n service say group has name exec g =
    ap (λ (o : Option Said). unless_fault (fault_at n (above group has name exec) o) (service_from (below (above group has name exec) o) (n + 1) lines)) say.0
    ∙ from_line n lines said service (is_read_all lines said (n + 1) service say.1) group has name exec first g

-- ## A file as a whole

abbrev lines_of : List ℕ → List Text
lines_of bytes = slice_split (λ b. b == line_feed) bytes

pub read_is_described : (bytes : List ℕ) (service : Described) → service_in bytes ≡ Ok service → IsServiceFile bytes service
read_is_described bytes service h = go (nat_le (length bytes) max_file_length) refl h
  where
    go : (t : Bool) → nat_le (length bytes) max_file_length ≡ t → (if t then service_from nothing_above 1 (lines_of bytes) else Err (Line 0)) ≡ Ok service → IsServiceFile bytes service
    go false e k = absurd (cc)
    go true e k =
        let f = reads_all (lines_of bytes) 1 service BeforeGroups false None None tt k in
        let g = f.complete in
        record {
          short = leb-true (length bytes) max_file_length e;
          said = f.said;
          reads = f.say;
          describes = record { placed = g.placed; one_group = omega (arith, g.one_group); one_name = g.one_name; named_well = g.named_well; command = g.command; one_exec = g.one_exec; words = g.words; program = g.program };
        }

pub described_is_read : (bytes : List ℕ) (service : Described) → IsServiceFile bytes service → service_in bytes ≡ Ok service
described_is_read bytes service s =
    let d = s.describes in
    ap (λ (t : Bool). if t then service_from nothing_above 1 (lines_of bytes) else Err (Line 0)) (le-leb (length bytes) max_file_length s.short)
    ∙ is_read_all (lines_of bytes) s.said 1 service s.reads BeforeGroups false None None
    (record { placed = d.placed; one_group = omega (arith, d.one_group); one_name = d.one_name; named_well = d.named_well; command = d.command; one_exec = d.one_exec; words = d.words; program = d.program })
