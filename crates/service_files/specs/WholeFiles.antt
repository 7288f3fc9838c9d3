-- What a good service file is, as a whole. (D-Bus Specification: "Message Bus Starting Services")
use Rattle.std.specs.Prelude.{◌≡◌, ℕ, ◌+◌, ◌<◌, ◌≤◌, Bool, true, false, ◌&&◌, ◌==◌, List, [], ◌∷◌, length, Some, if◌then◌else◌}
use Rattle.std.specs.List.{slice_split}
use Rattle.names.specs.Texts.{Text, text_eq}
use Rattle.service_files.specs.ServiceFiles.{Said, Silence, Header, Entry, Described, said_by, line_feed, name_key, exec_key, is_service_name, words_of, max_file_length}

-- Each of the lines reads, and says this.
abbrev pub Say : List Text → List Said → Type 0
Say [] [] = Unit {0}
Say [] (said ∷ others) = ⊥
Say (line ∷ lines) [] = ⊥
Say (line ∷ lines) (said ∷ others) = (said_by line ≡ Some said) × Say lines others

-- No value stands before a group, unless one has begun already.
abbrev pub are_placed : Bool → List Said → Bool
are_placed has_begun [] = true
are_placed has_begun (Silence ∷ others) = are_placed has_begun others
are_placed has_begun (Header is_service ∷ others) = true
are_placed has_begun (Entry key value ∷ others) = has_begun

-- how often the service's group begins
abbrev pub service_groups : List Said → ℕ
service_groups [] = 0
service_groups (Silence ∷ others) = service_groups others
service_groups (Header is_service ∷ others) = (if is_service then 1 else 0) + service_groups others
service_groups (Entry key value ∷ others) = service_groups others

-- the values of a key in the service's group, which the first line stands in or not
abbrev pub values_of : Text → Bool → List Said → List Text
values_of key inside [] = []
values_of key inside (Silence ∷ others) = values_of key inside others
values_of key inside (Header is_service ∷ others) = values_of key is_service others
values_of key inside (Entry k value ∷ others) = if inside && text_eq k key then value ∷ values_of key inside others else values_of key inside others

-- Lines that say this describe the service: they have one group for it, and in that one Name, which is a service's, and one Exec,
-- which has a word.
pub record Describe (said : List Said) (service : Described) : Type 0 where
  pub placed : are_placed false said ≡ true
  pub one_group : service_groups said ≡ 1
  pub one_name : values_of name_key false said ≡ service.name ∷ []
  pub named_well : is_service_name service.name ≡ true
  pub command : Text
  pub one_exec : values_of exec_key false said ≡ command ∷ []
  pub words : words_of command ≡ service.words
  pub program : 0 < length service.words

-- The file describes the service.
pub record IsServiceFile (bytes : List ℕ) (service : Described) : Type 0 where
  pub short : length bytes ≤ max_file_length
  pub said : List Said
  pub reads : Say (slice_split (λ b. b == line_feed) bytes) said
  pub describes : Describe said service
