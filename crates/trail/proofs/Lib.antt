mod SlotsBefore
mod StateAt
mod Steps
