mod Cutting
mod CommandWords
mod FileLines
mod LineTexts
mod Describing
